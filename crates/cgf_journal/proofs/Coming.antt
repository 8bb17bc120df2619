-- What a plan that arms one call of the device makes of the calls of a commit and of an opening again.
use Rattle.std.proofs.Common.{◌≡◌, ◌≢◌, ℕ, zero, suc, ◌||◌, Bool, true, false, sym, ◌∙◌, ap, subst, rules}
use Rattle.cgf_journal.proofs.Names.{after_put, append_fails, batch_stands, course_after, course_by, Ending, ending_by, ending_of, Fate, Ghosts, is_ended, is_err, is_failure, IsTrue, Outcome3, outcome_left, Result, stop_stands, Told, Trail, waiting_octets, with_reads}
use Rattle.area_disk.specs.Armed.{Armed, IsArmed, after_one, calls_under, planned_in}
use Rattle.area_disk.specs.Armed.Armed.{Nothing, Fail, Stop}
use Rattle.area_disk.specs.ArmedLaws.{armed_failed, armed_ran, armed_reads}
use Rattle.area_disk.specs.Course.{Course, IsTied, after_sync, after_write, fate_of_sync, fate_of_write}
use Rattle.area_disk.specs.CourseLaws.{tied_put, tied_sync, tied_synced, tied_write}
use Rattle.area_disk.specs.declared.plan.Fate.TheVariants.{Runs, Fails}
use Rattle.gate_journal.specs.Appending.{AppendFollows}
use Rattle.gate_journal.specs.Planned.Ending.{BothRan}
use Rattle.gate_journal.specs.Reopening as reopening
use Rattle.cgf_journal.specs.Comes.{CommitComes, HasFailed, HasRun, HasStopped, ReopenComes, plan_of}
use Rattle.cgf_journal.specs.Outcomes.{CommitPlanned, ReopenPlanned}
use Rattle.cgf_journal.proofs.Trails.{waiting-none}

stop_is_one : (b : Bool) → b ≡ false → (b || true) ≡ true
stop_is_one b running = ap (λ x. x || true) running

-- how a write and a sync end under what is armed, and the plan then
abbrev ends_under : Armed → Ending
ends_under a = ending_by (planned_in a 0) (planned_in (after_one a) 0)

abbrev course_under : Armed → Course → Course
course_under a course = course_by (planned_in a 0) (planned_in (after_one a) 0) course

module _ (a : Armed) (course : Course) (tied : IsTied a course) where
  write_is : fate_of_write course ≡ planned_in a 0
  write_is = tied_write a course tied

  sync_is : fate_of_sync (after_write Runs course) ≡ planned_in (after_one a) 0
  sync_is = tied_sync (after_one a) (after_write Runs course) (armed_ran a course.schedule tied.is_armed)

  ends_so : ending_of course ≡ ends_under a
  ends_so = λ i. ending_by (write_is i) (sync_is i)

  goes_so : after_put course ≡ course_under a course
  goes_so = λ i. course_by (write_is i) (sync_is i) course

-- a call that failed, and one at which the device was stopped, where the plan is such a rest
module _ {A : Type 0} {tells : Ghosts A} {new : Trail A tells} {failed : Bool} where
  fails_so : (stands : Outcome3 → Bool) (rest : Course) → failed ≡ true → plan_of new ≡ rest →
      IsArmed Nothing rest.schedule →
      (failed ≡ true → (outcome : Outcome3) → stop_stands outcome new ≡ stands outcome) → HasFailed new failed stands
  fails_so stands rest fails is armed left = search rules

  stops_so : (stands : Bool) (rest : Course) → failed ≡ true → plan_of new ≡ rest → rest.schedule.stopped ≡ true →
      (failed ≡ true → (outcome : Outcome3) → stop_stands outcome new ≡ stands) → HasStopped new failed stands
  stops_so stands rest fails is stopped left = search rules

module _ {A : Type 0} {tells : Ghosts A} (old new : Trail A tells) (failed : Bool) (follows : AppendFollows old.journal new.journal failed) where
  -- the writing of the frame ended so, with this rest of the plan; and then the opening of the gate
  record Framed (end : Ending) (rest : Course) : Type 0 where
    fails : failed ≡ append_fails end (ending_of rest)
    course : plan_of new ≡ course_after end rest (after_put rest)
    stands : failed ≡ true → (outcome : Outcome3) → stop_stands outcome new ≡ batch_stands end (ending_of rest) outcome

  record Gated (end : Ending) (rest : Course) : Type 0 where
    fails : failed ≡ is_ended end
    course : plan_of new ≡ rest
    stands : failed ≡ true → (outcome : Outcome3) → stop_stands outcome new ≡ batch_stands BothRan end outcome

  module _ (a : Armed) (tied : IsTied a (plan_of old)) where
    framed : Framed (ends_under a) (course_under a (plan_of old))
    framed =
        let end = ends_so a (plan_of old) tied in
        let rest = goes_so a (plan_of old) tied in
        record {
          fails = follows.fails ∙ (λ i. append_fails (end i) (ending_of (rest i)));
          course = follows.course ∙ (λ i. course_after (end i) (rest i) (after_put (rest i)));
          stands = λ is outcome. follows.stands is outcome ∙ (λ i. batch_stands (end i) (ending_of (rest i)) outcome);
        }

    -- the plan once the frame is written
    abbrev written : Course
    written = after_sync Runs (after_write Runs (plan_of old))

    tied_two : IsTied (after_one (after_one a)) written
    tied_two = tied_put a (plan_of old) tied

    gated : Framed BothRan written → Gated (ends_under (after_one (after_one a))) (course_under (after_one (after_one a)) written)
    gated frame =
        let end = ends_so (after_one (after_one a)) written tied_two in
        record {
          fails = frame.fails ∙ (λ i. is_ended (end i));
          course = frame.course ∙ goes_so (after_one (after_one a)) written tied_two;
          stands = λ is outcome. frame.stands is outcome ∙ (λ i. batch_stands BothRan (end i) outcome);
        }

    all_ran : Gated BothRan (after_sync Runs (after_write Runs written)) → HasRun new failed (after_one (after_one (after_one (after_one a))))
    all_ran gate = record {
      runs = gate.fails;
      tied = subst (λ (c : Course). IsTied (after_one (after_one (after_one (after_one a)))) c) (sym gate.course)
          (tied_put (after_one (after_one a)) written tied_two);
    }

  commit_comes : (a : Armed) → IsTied a (plan_of old) → CommitComes new failed (calls_under a 4)
  commit_comes Nothing tied = all_ran Nothing tied (gated Nothing tied (framed Nothing tied))
  commit_comes (Fail zero) tied =
      let end = framed (Fail zero) tied in
      fails_so _ _ end.fails end.course (armed_failed (plan_of old).schedule tied.is_armed) end.stands
  commit_comes (Fail (suc zero)) tied =
      let end = framed (Fail (suc zero)) tied in
      fails_so _ _ end.fails end.course (armed_failed (after_write Runs (plan_of old)).schedule
      (armed_ran (Fail (suc zero)) (plan_of old).schedule tied.is_armed)) end.stands
  commit_comes (Fail (suc (suc zero))) tied =
      let end = gated (Fail (suc (suc zero))) tied (framed (Fail (suc (suc zero))) tied) in
      fails_so _ _ end.fails end.course (armed_failed (after_sync Runs (after_write Runs (plan_of old))).schedule
      (tied_two (Fail (suc (suc zero))) tied).is_armed) end.stands
  commit_comes (Fail (suc (suc (suc zero)))) tied =
      let end = gated (Fail (suc (suc (suc zero)))) tied (framed (Fail (suc (suc (suc zero)))) tied) in
      let armed = armed_ran (Fail (suc zero)) (after_sync Runs (after_write Runs (plan_of old))).schedule
      (tied_two (Fail (suc (suc (suc zero)))) tied).is_armed in
      fails_so _ _ end.fails end.course
      (armed_failed (after_write Runs (after_sync Runs (after_write Runs (plan_of old)))).schedule armed) end.stands
  commit_comes (Fail (suc (suc (suc (suc k))))) tied =
      let a = Fail (suc (suc (suc (suc k)))) in all_ran a tied (gated a tied (framed a tied))
  commit_comes (Stop zero outcome) tied =
      let end = framed (Stop zero outcome) tied in
      stops_so _ _ end.fails end.course (stop_is_one (plan_of old).schedule.stopped tied.is_armed.running) end.stands
  commit_comes (Stop (suc zero) outcome) tied =
      let end = framed (Stop (suc zero) outcome) tied in
      stops_so _ _ end.fails end.course (stop_is_one (after_write Runs (plan_of old)).schedule.stopped
      (armed_ran (Stop (suc zero) outcome) (plan_of old).schedule tied.is_armed).running) end.stands
  commit_comes (Stop (suc (suc zero)) outcome) tied =
      let end = gated (Stop (suc (suc zero)) outcome) tied (framed (Stop (suc (suc zero)) outcome) tied) in
      stops_so _ _ end.fails end.course (stop_is_one (after_sync Runs (after_write Runs (plan_of old))).schedule.stopped
      (tied_two (Stop (suc (suc zero)) outcome) tied).is_armed.running) end.stands
  commit_comes (Stop (suc (suc (suc zero))) outcome) tied =
      let end = gated (Stop (suc (suc (suc zero))) outcome) tied (framed (Stop (suc (suc (suc zero))) outcome) tied) in
      let armed = armed_ran (Stop (suc zero) outcome) (after_sync Runs (after_write Runs (plan_of old))).schedule
      (tied_two (Stop (suc (suc (suc zero))) outcome) tied).is_armed in
      stops_so _ _ end.fails end.course
      (stop_is_one (after_write Runs (after_sync Runs (after_write Runs (plan_of old)))).schedule.stopped armed.running) end.stands
  commit_comes (Stop (suc (suc (suc (suc k)))) outcome) tied =
      let a = Stop (suc (suc (suc (suc k)))) outcome in all_ran a tied (gated a tied (framed a tied))

-- an opening again is a sync
module _ {A : Type 0} {tells : Ghosts A} (old new : Trail A tells) (failed : Bool) (follows : reopening.ReopenFollows old.journal new.journal failed) where
  record Synced (fate : Fate) : Type 0 where
    fails : failed ≡ is_failure fate
    course : plan_of new ≡ with_reads (plan_of new).schedule.reads (after_sync fate (plan_of old))
    stands : failed ≡ true → (outcome : Outcome3) → stop_stands outcome new ≡ stop_stands (outcome_left fate outcome) old

  module _ (a : Armed) (armed : IsArmed a (plan_of old).schedule) where
    synced : Synced (planned_in a 0)
    synced =
        let is = tied_sync a (plan_of old) armed in
        record {
          fails = follows.planned.runs armed.reads ∙ (λ i. is_failure (is i));
          course = follows.planned.course ∙ (λ i. with_reads (plan_of new).schedule.reads (after_sync (is i) (plan_of old)));
          stands = λ failing outcome. follows.stands failing outcome ∙ (λ i. stop_stands (outcome_left (is i) outcome) old);
        }

    sync_ran : Synced Runs → HasRun new failed (after_one a)
    sync_ran sync =
        let free = tied_synced a (plan_of old) armed in
        record {
          runs = sync.fails;
          tied = subst (λ (c : Course). IsTied (after_one a) c) (sym sync.course)
              (record { is_armed = armed_reads (after_one a) (after_sync Runs (plan_of old)).schedule (plan_of new).schedule.reads free.is_armed; has_spare = free.has_spare });
        }

  reopen_comes : (a : Armed) → IsArmed a (plan_of old).schedule → ReopenComes old new failed (calls_under a 1)
  reopen_comes Nothing armed = sync_ran Nothing armed (synced Nothing armed)
  reopen_comes (Fail zero) armed =
      let sync = synced (Fail zero) armed in
      fails_so _ _ sync.fails sync.course (armed_reads Nothing (after_sync Fails (plan_of old)).schedule
      (plan_of new).schedule.reads (armed_failed (plan_of old).schedule armed)) sync.stands
  reopen_comes (Fail (suc k)) armed = sync_ran (Fail (suc k)) armed (synced (Fail (suc k)) armed)
  reopen_comes (Stop zero outcome) armed =
      let sync = synced (Stop zero outcome) armed in
      stops_so _ _ sync.fails sync.course (stop_is_one (plan_of old).schedule.stopped armed.running) sync.stands
  reopen_comes (Stop (suc k) outcome) armed = sync_ran (Stop (suc k) outcome) armed (synced (Stop (suc k) outcome) armed)

-- the clauses of a commit and of an opening again
pub commit_planned : {A E : Type 0} {tells : Ghosts A} (old new : Trail A tells) (result : Result ℕ E)
    → (IsTrue tells.tells_fate → Told tells → waiting_octets old ≢ 0 → AppendFollows old.journal new.journal (is_err result)) → CommitPlanned old new result
commit_planned old new result follows = record {
  follows = λ fate told some. let so = follows fate told some in record { fails = so.fails; course = so.course; stands = so.stands };
  comes = λ fate told some a tied. commit_comes old new (is_err result) (follows fate told (λ none. some (waiting-none old none))) a tied;
}

pub reopen_planned : {A E : Type 0} {tells : Ghosts A} (old new : Trail A tells) (result : Result Bool E) → (IsTrue tells.tells_fate → reopening.ReopenFollows old.journal new.journal (is_err result)) → ReopenPlanned old new result
reopen_planned old new result follows = record {
  follows = λ fate. let so = follows fate in record { planned = so.planned; stands = so.stands };
  comes = λ fate a armed. reopen_comes old new (is_err result) (follows fate) a armed;
}

pub reopen_failed : {A E : Type 0} {tells : Ghosts A} (old new : Trail A tells) (result : Result Bool E) → is_err result ≡ true → (IsTrue tells.tells_fate → reopening.ReopenFollows old.journal new.journal true) → ReopenPlanned old new result
reopen_failed old new result is follows = reopen_planned old new result (λ fate. subst (λ b. reopening.ReopenFollows old.journal new.journal b) (sym is) (follows fate))
