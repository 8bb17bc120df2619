-- What a sink in memory is: the octets that were written, how many it has room for in all, how many calls were made,
-- the numbers of the calls that are to fail, counted from 1, and how many failed; and what a call of it does.
use Rattle.std.specs.Prelude.{ℕ, List, Result, IfOk, OnErr, IsErr, Contains, ◌≡◌, ◌↔◌, ◌⊎◌, ◌<◌, ◌+◌, length, is_ok, if◌then◌else◌}
use Rattle.gw_base.specs.Faults.{next_count}

pub record MemoryOutput : Type 0 where
  pub written : List ℕ
  pub room : ℕ
  pub calls : ℕ
  pub fail : List ℕ
  pub faults : ℕ

-- A call that is to write octets fails where it is one of those that are to fail, or where they have no room. It writes
-- them whole, or none; each call is counted, and each failure; the room and the calls that are to fail stay.
pub record PutsAsPlanned {E : Type 0} (old new : MemoryOutput) (octets : List ℕ) (result : Result ℕ E) : Type 0 where
  pub whole : IfOk result (λ n. n ≡ length octets)
  pub fails : IsErr result ↔ (Contains old.fail (next_count old.calls) ⊎ (old.room < length old.written + length octets))
  pub none : OnErr result (new.written ≡ old.written)
  pub calls : new.calls ≡ next_count old.calls
  pub faults : new.faults ≡ (if is_ok result then old.faults else next_count old.faults)
  pub room : new.room ≡ old.room
  pub plan : new.fail ≡ old.fail
