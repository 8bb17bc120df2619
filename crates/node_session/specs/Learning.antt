-- What a pass learns of an answer that one of its turns left.
use Rattle.std.specs.Prelude.{◌≡◌, ◌≢◌, ℕ, Bool, true, [], ◌∷◌, ◌++◌, length}
use Rattle.std.specs.List.{Contains}
use Rattle.area_disk.specs.Disk.{Rose}
use Rattle.gw_base.specs.Facts.{WhereTold}
use Rattle.gw_base.specs.Owes.{Begins}
use Rattle.gateway_book.specs.Calls.{is_above}
use Rattle.gateway_book.specs.declared.outcome.Outcome.{Outcome}
use Rattle.gateway_book.specs.declared.outcome.Outcome.TheVariants.{Answer}
use Rattle.gateway_book.specs.declared.outcome.Receipt.{Receipt}
use Rattle.gateway_book.specs.declared.outcome.Settled.{Settled}
use Rattle.gateway_book.specs.declared.outcome.Settled.TheVariants.{Firm, NotYet, Lost}
use Rattle.turn_cell.specs.declared.knowing.KeptTurn.{KeptTurn}
use Rattle.turn_cell.specs.declared.knowing.Knowledge.{Knowledge}

-- A turn left the value with these numbers: the length of its list, and the count of commits and openings again that
-- failed.
pub record IsCountedBy (told : Bool) (front faults : ℕ) (t : KeptTurn) : Type 0 where
  pub front_is : front ≡ t.left.entries
  pub faults_is : faults ≡ t.left.cuts
  pub long : WhereTold told (front ≡ length t.left.list)

-- the pass keeps a turn that gave the receipt of an outcome, where it has one
abbrev pub HasTurnFor : Bool → Outcome → Knowledge → Type 0
HasTurnFor told outcome k = (receipt : Receipt) → outcome ≡ Answer receipt
    → (t : KeptTurn) × Contains k.turns t × IsCountedBy told receipt.front receipt.faults t

-- the answer is void, and the pass keeps one more turn, which found it so
pub record HasCut (t : KeptTurn) (before after : Knowledge) : Type 0 where
  pub second : KeptTurn
  pub turns : after.turns ≡ before.turns ++ second ∷ []
  pub cut : is_above second.left.cuts t.left.cuts ≡ true
  pub rose : Rose t.left.faults second.left.faults

-- What is told of the answer of a turn: that it is firm only where all that it rests on is known to be; never that it
-- isn't yet; and that it is lost only where a commit or an opening again failed since.
pub record Learns (told : Bool) (t : KeptTurn) (before after : Knowledge) (settled : Settled) : Type 0 where
  pub firm : settled ≡ Firm → WhereTold told (Begins t.left.list after.known)
  pub never : (n : ℕ) → settled ≢ NotYet n
  pub lost : (n : ℕ) → settled ≡ Lost n → HasCut t before after
