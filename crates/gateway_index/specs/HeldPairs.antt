-- The copies that are held on the firm side and on the live side.
use Rattle.std.specs.Prelude.{◌≡◌, Bool, true, false, if◌then◌else◌}
use Rattle.dup_buffer.specs.Copies.{Copies}
use Rattle.dup_buffer.specs.Stored.{copies_of}
use Rattle.gateway_index.specs.declared.held_pair.HeldPair.{HeldPair}

-- what is held on the firm side, or else on the live side
unfoldable pub held_in : Bool → HeldPair → Copies
held_in firm pair = if firm then copies_of pair.firm else copies_of pair.live

-- The live side took a step, and the firm side stays.
pub record IsHeldStep (step : Copies → Copies) (old new : HeldPair) : Type 0 where
  pub live : held_in false new ≡ step (held_in false old)
  pub firm : held_in true new ≡ held_in true old
