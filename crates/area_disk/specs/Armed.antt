-- What is armed for the calls to come of an area or a shelf, and what comes of so many of them.
use Rattle.std.specs.Prelude.{◌≡◌, ℕ, zero, suc, ◌+◌, ◌<◌, min, false, []}
use Rattle.area_disk.specs.Disk.{last_count}
use Rattle.area_disk.specs.Plan.{Schedule, planned_for}
use Rattle.area_disk.specs.declared.plan.Fate.{Fate}
use Rattle.area_disk.specs.declared.plan.Fate.TheVariants.{Runs, Fails, Stops}
use Rattle.area_disk.specs.declared.plan.Outcome3.{Outcome3}

-- nothing, or one counted call that fails or stops: so many calls run before it
pub data Armed : Type 0 where
  Nothing : Armed
  Fail : ℕ → Armed
  Stop : ℕ → Outcome3 → Armed

-- What came of some calls, made one after the other until one of them fails: all ran, and this is armed then; or the
-- call with this number, from 1, failed or was stopped.
pub data Came : Type 0 where
  Ran : Armed → Came
  FailedAt : ℕ → Came
  StoppedAt : ℕ → Outcome3 → Came

-- what comes of the call before which d others are made
abbrev pub planned_in : Armed → ℕ → Fate
planned_in Nothing d = Runs
planned_in (Fail zero) zero = Fails
planned_in (Fail zero) (suc d) = Runs
planned_in (Fail (suc k)) zero = Runs
planned_in (Fail (suc k)) (suc d) = planned_in (Fail k) d
planned_in (Stop zero outcome) zero = Stops outcome
planned_in (Stop zero outcome) (suc d) = Runs
planned_in (Stop (suc k) outcome) zero = Runs
planned_in (Stop (suc k) outcome) (suc d) = planned_in (Stop k outcome) d

-- what is armed after one call more
abbrev pub after_one : Armed → Armed
after_one Nothing = Nothing
after_one (Fail zero) = Nothing
after_one (Fail (suc k)) = Fail k
after_one (Stop zero outcome) = Nothing
after_one (Stop (suc k) outcome) = Stop k outcome

-- the same, counted with one call in front
abbrev pub one_later : Came → Came
one_later (Ran a) = Ran a
one_later (FailedAt k) = FailedAt (suc k)
one_later (StoppedAt k outcome) = StoppedAt (suc k) outcome

-- what comes of n calls
abbrev pub calls_under : Armed → ℕ → Came
calls_under a zero = Ran a
calls_under Nothing (suc n) = Ran Nothing
calls_under (Fail zero) (suc n) = FailedAt 1
calls_under (Fail (suc k)) (suc n) = one_later (calls_under (Fail k) n)
calls_under (Stop zero outcome) (suc n) = StoppedAt 1 outcome
calls_under (Stop (suc k) outcome) (suc n) = one_later (calls_under (Stop k outcome) n)

-- the same, counted with n calls in front
abbrev pub later_by : ℕ → Came → Came
later_by zero came = came
later_by (suc n) came = one_later (later_by n came)

-- what comes of n calls more after m of which this came
abbrev pub then_calls : ℕ → ℕ → Came → Came
then_calls m n (Ran a) = later_by m (calls_under a n)
then_calls m n (FailedAt k) = FailedAt k
then_calls m n (StoppedAt k outcome) = StoppedAt k outcome

-- the armed call has a number, after so many calls
abbrev pub Reaches : Armed → ℕ → Type 0
Reaches Nothing calls = Unit {0}
Reaches (Fail k) calls = calls + k < last_count
Reaches (Stop k outcome) calls = calls + k < last_count

-- no read is to fail, and no stop came that wasn't revived
pub record ReadsRun (s : Schedule) : Type 0 where
  pub running : s.stopped ≡ false
  pub reads : s.read_fail ≡ []

-- This is armed, and nothing else is planned for the calls to come.
pub record IsArmed (a : Armed) (s : Schedule) : Type 0 where
  pub running : s.stopped ≡ false
  pub reads : s.read_fail ≡ []
  pub within : Reaches a s.calls
  pub ahead : (d : ℕ) → planned_for s (min s.calls last_count + 1 + d) ≡ planned_in a d
