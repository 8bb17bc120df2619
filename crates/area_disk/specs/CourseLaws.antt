-- What a plan that arms one call makes of an area's writes and syncs.
use Rattle.std.proofs.Common.{◌≡◌, ℕ, zero, suc, ◌≤◌, false, Result, refl, sym, ◌∙◌, ap, arith}
use Rattle.std.specs.Prelude.{is_err}
use Rattle.area_disk.specs.Armed.{Armed, planned_in, after_one, IsArmed, ReadsRun}
use Rattle.area_disk.specs.ArmedLaws.{armed_next, armed_after, armed_ran, reads_run}
use Rattle.area_disk.specs.Course.{Course, IsTied, ReadOn, fate_of_write, fate_of_sync, after_write, after_sync}
use Rattle.area_disk.specs.Plan.{Prospect, ReadAsPlanned, Schedule, fate_with, next_fate, with_reads}
use Rattle.area_disk.specs.declared.plan.Fate.{Fate}
use Rattle.area_disk.specs.declared.plan.Fate.TheVariants.{Runs, Fails}

with_spare : (spare : ℕ) (fate : Fate) → 1 ≤ spare → fate_with spare fate ≡ fate
with_spare zero fate some = absurd (omega (arith, some))
with_spare (suc spare) fate some = refl

-- the next write, and the next sync, come out as is armed
pub tied_write : (a : Armed) (course : Course) → IsTied a course → fate_of_write course ≡ planned_in a 0
tied_write a course tied = with_spare course.spare (next_fate course.schedule) tied.has_spare ∙ armed_next a course.schedule tied.is_armed

pub tied_sync : (a : Armed) (course : Course) → IsArmed a course.schedule → fate_of_sync course ≡ planned_in a 0
tied_sync a course is = armed_next a course.schedule is

-- after a sync that ran there is room for writes again
pub tied_synced : (a : Armed) (course : Course) → IsArmed a course.schedule → IsTied (after_one a) (after_sync Runs course)
tied_synced a course is = record { is_armed = armed_ran a course.schedule is; has_spare = omega arith }

-- a write and a sync that ran
pub tied_put : (a : Armed) (course : Course) → IsTied a course → IsTied (after_one (after_one a)) (after_sync Runs (after_write Runs course))
tied_put a course tied = tied_synced (after_one a) (after_write Runs course) (armed_ran a course.schedule tied.is_armed)

-- a call that failed
pub tied_write_failed : (a : Armed) (course : Course) → IsTied a course → IsTied (after_one a) (after_write Fails course)
tied_write_failed a course tied = record { is_armed = armed_after a course.schedule Fails refl tied.is_armed; has_spare = tied.has_spare }

pub tied_sync_failed : (a : Armed) (course : Course) → IsTied a course → IsTied (after_one a) (after_sync Fails course)
tied_sync_failed a course tied = record { is_armed = armed_after a course.schedule Fails refl tied.is_armed; has_spare = tied.has_spare }

-- reads one after the other, and one read
pub read_on_trans : (a b c : Prospect) → ReadOn a b → ReadOn b c → ReadOn a c
read_on_trans a b c one two = record {
  schedule = two.schedule ∙ ap (λ (s : Schedule). with_reads c.schedule.reads s) one.schedule;
  spare = two.spare ∙ one.spare;
  leaves = λ outcome. two.leaves outcome ∙ one.leaves outcome;
}

pub read_on : {T E : Type 0} (old : Prospect) (result : Result T E) (new : Prospect) → ReadAsPlanned old result new → ReadOn old new
read_on old result new read = record {
  schedule = read.schedule ∙ ap (λ n. with_reads n old.schedule) (sym (ap (λ (s : Schedule). s.reads) read.schedule));
  spare = read.spare;
  leaves = read.leaves;
}

-- where no read is to fail, one doesn't, and after reads none is to fail
pub read_runs : {T E : Type 0} (old : Prospect) (result : Result T E) (new : Prospect) → ReadAsPlanned old result new → ReadsRun old.schedule → is_err result ≡ false
read_runs old result new read runs = read.fails ∙ reads_run old.schedule runs

pub runs_on : (old new : Prospect) → ReadOn old new → ReadsRun old.schedule → ReadsRun new.schedule
runs_on old new read runs = record {
  running = ap (λ (s : Schedule). s.stopped) read.schedule ∙ runs.running;
  reads = ap (λ (s : Schedule). s.read_fail) read.schedule ∙ runs.reads;
}
