-- The plan of an area's calls, without what a stop leaves.
use Rattle.std.specs.Prelude.{◌≡◌, ℕ, ◌≤◌}
use Rattle.area_disk.specs.Armed.{Armed, IsArmed}
use Rattle.area_disk.specs.Plan.{Schedule, Prospect, next_fate, fate_with, after_call, spare_after_write, spare_after_sync, with_reads}
use Rattle.area_disk.specs.declared.plan.Fate.{Fate}
use Rattle.area_disk.specs.declared.plan.Outcome3.{Outcome3}

-- the calls made and planned, and how many writes are still taken before a sync
pub record Course : Type 0 where
  pub schedule : Schedule
  pub spare : ℕ

abbrev pub course_of : Prospect → Course
course_of prospect = record { schedule = prospect.schedule; spare = prospect.spare }

abbrev pub fate_of_write : Course → Fate
fate_of_write course = fate_with course.spare (next_fate course.schedule)

abbrev pub fate_of_sync : Course → Fate
fate_of_sync course = next_fate course.schedule

abbrev pub after_write : Fate → Course → Course
after_write fate course = record { schedule = after_call fate course.schedule; spare = spare_after_write fate course.spare }

abbrev pub after_sync : Fate → Course → Course
after_sync fate course = record { schedule = after_call fate course.schedule; spare = spare_after_sync fate course.spare }

-- This is armed, and there is room for one write.
pub record IsTied (a : Armed) (course : Course) : Type 0 where
  pub is_armed : IsArmed a course.schedule
  pub has_spare : 1 ≤ course.spare

-- Calls that were reads alone changed nothing of the plan but the number of reads.
pub record ReadOn (old new : Prospect) : Type 0 where
  pub schedule : new.schedule ≡ with_reads new.schedule.reads old.schedule
  pub spare : new.spare ≡ old.spare
  pub leaves : (o : Outcome3) → new.leaves o ≡ old.leaves o
