-- How a call on the area of a journal leaves the journal as it was.
use Rattle.std.proofs.Common.{◌≡◌, rules}
use Rattle.gate_journal.proofs.Names.{batches, Ghosts, IsTrue, Journal, Kept, Outcome3, stop_stands, torn, torn_stands}
use Rattle.gate_journal.specs.Kept.{IsAsBefore, IsKept}

-- all of a journal but its area is the same
pub record IsOver {A : Type 0} {g : Ghosts A} (old new : Journal A g) : Type 0 where
  pub buffer : new.buffer.items ≡ old.buffer.items
  pub gate : new.gate ≡ old.gate
  pub torn_length : new.torn_length ≡ old.torn_length
  pub is_torn : new.is_torn ≡ old.is_torn
  pub front : new.front ≡ old.front
  pub address : new.address ≡ old.address
  pub generation : new.generation ≡ old.generation

module _ {A : Type 0} {g : Ghosts A} (old new : Journal A g) (over : IsOver old new) where
  module _ (size : g.size new.area ≡ g.size old.area) where
    pub as_before : g.octets new.area ≡ g.octets old.area → (IsTrue g.tells_fate → (outcome : Outcome3) → (g.fate new.area).leaves outcome ≡ (g.fate old.area).leaves outcome) → IsAsBefore old new
    unfolding batches torn torn_stands stop_stands
    as_before octets leaves = search rules

  pub kept_journal : Kept g old.area new.area → IsKept old new
  kept_journal kept = record { area = kept; same = as_before kept.size kept.octets (λ told. (kept.planned told).leaves) }
