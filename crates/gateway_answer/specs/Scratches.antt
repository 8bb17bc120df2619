-- The lists in which answers are worked out.
use Rattle.std.specs.Prelude.{◌≡◌, []}
use Rattle.gateway_answer.specs.declared.listing.Scratch.{Scratch}

-- they are empty
pub record IsEmpty (scratch : Scratch) : Type 0 where
  pub numbers : scratch.numbers.items.items ≡ []
  pub states : scratch.states.items.items ≡ []
  pub held : scratch.held.items.items ≡ []
