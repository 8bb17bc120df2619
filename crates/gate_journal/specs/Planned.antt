-- What comes by the plan of the calls of an append, and what a stop leaves of its batch.
use Rattle.std.specs.Prelude.{◌≡◌, ℕ, Bool, true, false, ◌==◌, List, [], Result, is_err}
use Rattle.area_disk.specs.Disk.{overwritten}
pub use Rattle.area_disk.specs.Armed.{ReadsRun}
pub use Rattle.area_disk.specs.Course.{Course, ReadOn, course_of, fate_of_write, fate_of_sync, after_write, after_sync}
use Rattle.area_disk.specs.Plan.{Prospect, written_as, is_failure}
use Rattle.area_disk.specs.declared.plan.Fate.{Fate}
use Rattle.area_disk.specs.declared.plan.Fate.TheVariants.{Runs, Fails, Stops}
use Rattle.area_disk.specs.declared.plan.Outcome3.{Outcome3}
use Rattle.area_disk.specs.declared.plan.Outcome3.TheVariants.{Old, New, Rot}
use Rattle.gate_journal.specs.Format.{open_gate, gate_at}

-- how a write and the sync behind it end: both ran, or one of them failed or was stopped
pub data Ending : Type 0 where
  BothRan : Ending
  AtWrite : Fate → Ending
  AtSync : Fate → Ending

abbrev pub is_ended : Ending → Bool
is_ended BothRan = false
is_ended (AtWrite fate) = true
is_ended (AtSync fate) = true

abbrev pub ending_by : Fate → Fate → Ending
ending_by Runs Runs = BothRan
ending_by Runs Fails = AtSync Fails
ending_by Runs (Stops outcome) = AtSync (Stops outcome)
ending_by Fails sync = AtWrite Fails
ending_by (Stops outcome) sync = AtWrite (Stops outcome)

abbrev pub course_by : Fate → Fate → Course → Course
course_by Runs sync course = after_sync sync (after_write Runs course)
course_by Fails sync course = after_write Fails course
course_by (Stops outcome) sync course = after_write (Stops outcome) course

-- how a write and a sync end by the plan
abbrev pub ending_of : Course → Ending
ending_of course = ending_by (fate_of_write course) (fate_of_sync (after_write Runs course))

-- the plan after them
abbrev pub after_put : Course → Course
after_put course = course_by (fate_of_write course) (fate_of_sync (after_write Runs course)) course

-- what the outcomes of a stop leave after a write and a sync that ended so
abbrev pub left_by : Ending → (Outcome3 → List ℕ) → ℕ → List ℕ → Outcome3 → List ℕ
left_by BothRan old at from outcome = overwritten (old New) at from
left_by (AtWrite Runs) old at from outcome = old outcome
left_by (AtWrite Fails) old at from outcome = old outcome
left_by (AtWrite (Stops stop)) old at from outcome = written_as stop (old stop) at from
left_by (AtSync Runs) old at from outcome = old outcome
left_by (AtSync Fails) old at from outcome = written_as outcome (old outcome) at from
left_by (AtSync (Stops stop)) old at from outcome = written_as stop (old stop) at from

-- a write and a sync came out as was planned
pub record PutPlanned
    {T E : Type 0} (old : Prospect) (at : ℕ) (from : List ℕ) (result : Result T E) (new : Prospect) : Type 0 where
  pub fails : is_err result ≡ is_ended (ending_of (course_of old))
  pub course : course_of new ≡ after_put (course_of old)
  pub leaves : (outcome : Outcome3)
      → new.leaves outcome ≡ left_by (ending_of (course_of old)) old.leaves at from outcome

abbrev pub is_new : Outcome3 → Bool
is_new Old = false
is_new New = true
is_new Rot = false

-- Whether the batch of an append stands that ended so in the writing of its frame and in the opening of its gate,
-- where a stop with this outcome comes then; a read gives what the outcome New leaves. It stands where the write of
-- the gate or the sync behind it was stopped and kept what was written, or where that sync failed and what was
-- written is kept.
abbrev pub batch_stands : Ending → Ending → Outcome3 → Bool
batch_stands BothRan BothRan outcome = true
batch_stands BothRan (AtWrite Runs) outcome = false
batch_stands BothRan (AtWrite Fails) outcome = false
batch_stands BothRan (AtWrite (Stops stop)) outcome = is_new stop
batch_stands BothRan (AtSync Runs) outcome = false
batch_stands BothRan (AtSync Fails) outcome = is_new outcome
batch_stands BothRan (AtSync (Stops stop)) outcome = is_new stop
batch_stands (AtWrite fate) gate outcome = false
batch_stands (AtSync fate) gate outcome = false

-- whether an append fails by the plan
abbrev pub append_fails : Ending → Ending → Bool
append_fails BothRan gate = is_ended gate
append_fails (AtWrite fate) gate = true
append_fails (AtSync fate) gate = true

abbrev pub course_after : Ending → Course → Course → Course
course_after BothRan one two = two
course_after (AtWrite fate) one two = one
course_after (AtSync fate) one two = one

-- the plan after an append
abbrev pub after_append : Course → Course
after_append course = course_after (ending_of course) (after_put course) (after_put (after_put course))

-- An append came out as was planned.
pub record AppendPlanned
    {T E : Type 0} (old : Prospect) (gate : ℕ) (result : Result T E) (new : Prospect) : Type 0 where
  pub fails : is_err result ≡ append_fails (ending_of (course_of old)) (ending_of (after_put (course_of old)))
  pub course : course_of new ≡ after_append (course_of old)
  pub opened : (outcome : Outcome3) → (gate_at (new.leaves outcome) gate == open_gate)
      ≡ batch_stands (ending_of (course_of old)) (ending_of (after_put (course_of old))) outcome

-- after a sync with this fate, a stop with an outcome leaves what one with this outcome would have left before
abbrev pub outcome_left : Fate → Outcome3 → Outcome3
outcome_left Runs outcome = New
outcome_left Fails outcome = outcome
outcome_left (Stops stop) outcome = stop

abbrev pub with_reads : ℕ → Course → Course
with_reads reads course = record { schedule = record course.schedule { reads = reads }; spare = course.spare }

-- A sync and the reads after it came out as was planned: they fail where the sync does, and else where a read does.
pub record SyncPlanned (old : Prospect) (failed : Bool) (new : Prospect) : Type 0 where
  pub fails : is_failure (fate_of_sync (course_of old)) ≡ true → failed ≡ true
  pub runs : old.schedule.read_fail ≡ [] → failed ≡ is_failure (fate_of_sync (course_of old))
  pub course : course_of new ≡ with_reads new.schedule.reads (after_sync (fate_of_sync (course_of old)) (course_of old))
  pub leaves : (outcome : Outcome3)
      → new.leaves outcome ≡ old.leaves (outcome_left (fate_of_sync (course_of old)) outcome)
