-- What a clock in memory is: the moments that it will give, how many calls were made, the numbers of the calls that
-- are to fail, counted from 1, and how many did; and what a call of it does.
use Rattle.std.specs.Prelude.{ℕ, List, Result, IfOk, OnOk, OnErr, IsErr, Some, Contains, ◌∷◌, ◌≡◌, ◌↔◌, slice_get, is_ok, if◌then◌else◌}
use Rattle.gw_base.specs.Faults.{next_count}

pub record MemoryTime : Type 0 where
  pub left : List ℕ
  pub calls : ℕ
  pub fail : List ℕ
  pub faults : ℕ

-- the moments that are left after the first, and the last one again where there is no other
abbrev pub after_first : List ℕ → List ℕ
after_first (moment ∷ later ∷ rest) = later ∷ rest
after_first moments = moments

-- A call fails where it is one of those that are to fail, and passes no moment then; otherwise it gives the first of
-- the moments that are left. Each call is counted, and each failure; the calls that are to fail stay.
pub record GivesAsPlanned {E : Type 0} (old new : MemoryTime) (result : Result ℕ E) : Type 0 where
  pub fails : IsErr result ↔ Contains old.fail (next_count old.calls)
  pub given : IfOk result (λ moment. slice_get old.left 0 ≡ Some moment)
  pub left : OnOk result (new.left ≡ after_first old.left)
  pub kept : OnErr result (new.left ≡ old.left)
  pub calls : new.calls ≡ next_count old.calls
  pub faults : new.faults ≡ (if is_ok result then old.faults else next_count old.faults)
  pub plan : new.fail ≡ old.fail
