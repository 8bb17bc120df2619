-- What a plan that arms one call of the device makes of a commit and of an opening again.
use Rattle.std.specs.Prelude.{◌≡◌, ◌&&◌, ◌==◌, Bool, true, false, nat_le}
use Rattle.area_disk.specs.Armed.{Armed, Came, IsArmed}
use Rattle.area_disk.specs.Armed.Armed.{Nothing}
use Rattle.area_disk.specs.Armed.Came.{Ran, FailedAt, StoppedAt}
use Rattle.area_disk.specs.Course.{Course, IsTied, course_of}
use Rattle.area_disk.specs.declared.area.Area.{Ghosts}
use Rattle.area_disk.specs.declared.plan.Outcome3.{Outcome3}
use Rattle.gate_journal.specs.Planned.{is_new}
use Rattle.cgf_journal.specs.Trail.{area_of, stop_stands}
use Rattle.cgf_journal.specs.declared.trail.Trail.{Trail}

-- what is planned for the calls of the device
abbrev pub plan_of : {A : Type 0} {tells : Ghosts A} → Trail A tells → Course
plan_of {tells = tells} trail = course_of (tells.fate (area_of trail))

module _ {A : Type 0} {tells : Ghosts A} (trail : Trail A tells) (failed : Bool) where
  -- The calls ran, and this is armed for those to come.
  pub record HasRun (armed : Armed) : Type 0 where
    pub runs : failed ≡ false
    pub tied : IsTied armed (plan_of trail)

  -- One of the calls failed, and nothing is armed any more; after a stop now the torn entries stand by its outcome.
  pub record HasFailed (stands : Outcome3 → Bool) : Type 0 where
    pub fails : failed ≡ true
    pub armed : IsArmed Nothing (plan_of trail).schedule
    pub left : (outcome : Outcome3) → stop_stands outcome trail ≡ stands outcome

  -- The device was stopped at one of the calls, and the torn entries stand or don't.
  pub record HasStopped (stands : Bool) : Type 0 where
    pub fails : failed ≡ true
    pub stopped : (plan_of trail).schedule.stopped ≡ true
    pub left : (outcome : Outcome3) → stop_stands outcome trail ≡ stands

  -- Entries of a commit that failed at its fourth call stand where what was written is kept; those of one that was
  -- stopped at its third or fourth call stand where the stop kept what was written; else they don't.
  abbrev pub CommitComes : Came → Type 0
  CommitComes (Ran armed) = HasRun armed
  CommitComes (FailedAt call) = HasFailed (λ outcome. (call == 4) && is_new outcome)
  CommitComes (StoppedAt call outcome) = HasStopped (nat_le 3 call && is_new outcome)

-- Torn entries stand by an opening again that failed as before it, and as a stop leaves them that came in it.
abbrev pub ReopenComes : {A : Type 0} {tells : Ghosts A} → Trail A tells → Trail A tells → Bool → Came → Type 0
ReopenComes old new failed (Ran armed) = HasRun new failed armed
ReopenComes old new failed (FailedAt call) = HasFailed new failed (λ outcome. stop_stands outcome old)
ReopenComes old new failed (StoppedAt call outcome) = HasStopped new failed (stop_stands outcome old)
