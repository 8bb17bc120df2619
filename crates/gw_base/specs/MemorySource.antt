-- What a source in memory is: the octets that are left, how many of them a call gives at most, how many calls were
-- made, the numbers of the calls that are to fail, counted from 1, and how many did; and what a call of it does.
use Rattle.std.specs.Prelude.{ℕ, List, Result, IfOk, IsErr, Contains, ◌≡◌, ◌↔◌, length, min, is_ok, if◌then◌else◌}
use Rattle.gw_base.specs.Faults.{next_count}

pub record MemoryInput : Type 0 where
  pub left : List ℕ
  pub piece : ℕ
  pub calls : ℕ
  pub fail : List ℕ
  pub faults : ℕ

-- A call that has room for so many octets fails where it is one of those that are to fail. It gives as many octets as
-- there are, fit in the room and in a piece; each call is counted, and each failure; the rest of the plan stays.
pub record TakesAsPlanned {E : Type 0} (old new : MemoryInput) (room : ℕ) (result : Result ℕ E) : Type 0 where
  pub fails : IsErr result ↔ Contains old.fail (next_count old.calls)
  pub count : IfOk result (λ n. n ≡ min old.piece (min room (length old.left)))
  pub calls : new.calls ≡ next_count old.calls
  pub faults : new.faults ≡ (if is_ok result then old.faults else next_count old.faults)
  pub piece : new.piece ≡ old.piece
  pub plan : new.fail ≡ old.fail
