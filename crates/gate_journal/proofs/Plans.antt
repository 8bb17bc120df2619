-- How the calls of an append come out as planned.
use Rattle.std.proofs.Common.{◌≡◌, ◌≢◌, ℕ, ◌+◌, ◌≤◌, Bool, true, false, List, [], ◌∷◌, length, get_or, take, drop, Result, refl, sym, ◌∙◌, ap, arith, append_assoc, rules}
use Rattle.gate_journal.proofs.Names.{after_append, after_put, after_sync, after_write, append_fails, AppendPlanned, at_front, batch_stands, Course, course_after, course_by, course_of, Ending, ending_by, ending_of, eqb_tells, false_from_ne_true, fate_of_sync, gate_at, get_or_at, Ghosts, is_ended, is_err, is_new, Journal, left_by, length-take-le, New, Old, open_gate, OpenFault, Outcome3, outcome_left, overwritten, PutPlanned, ReadOn, ReadsRun, Rot, SyncPlanned, take_at, with_reads, ◌==◌}
use Rattle.area_disk.specs.Plan.{Prospect, next_fate, after_call, spare_after_write, written_as, is_failure, LeavesAfterWrite, LeavesAfterSync, WriteAsPlanned, SyncAsPlanned, Schedule, is_stop, sync_fate, fate_with}
use Rattle.area_disk.specs.declared.plan.Fate.{Fate}
use Rattle.area_disk.specs.declared.plan.Fate.TheVariants.{Runs, Fails, Stops}
use Rattle.area_disk.specs.ArmedLaws.{stopped_fails}
use Rattle.gate_journal.specs.Planned.Ending.{BothRan, AtWrite, AtSync}
use Rattle.gate_journal.specs.OpenPlanned.{MadeBy}
use Rattle.gate_journal.proofs.Turns.{other_bool}

-- the parts of a put that came out as planned, by the fates of its calls
abbrev Parts : Fate → Fate → Course → (Outcome3 → List ℕ) → ℕ → List ℕ → Bool → Prospect → Type 0
Parts write sync course old at from failed new =
    (failed ≡ is_ended (ending_by write sync)) × (course_of new ≡ course_by write sync course) × ((o : Outcome3) → new.leaves o ≡ left_by (ending_by write sync) old at from o)

write_ended : (write sync : Fate) (course : Course) (old : Outcome3 → List ℕ) (at : ℕ) (from : List ℕ) (mid : Prospect) → is_failure write ≡ true → mid.schedule ≡ after_call write course.schedule → mid.spare ≡ spare_after_write write course.spare
    → LeavesAfterWrite write old at from mid.leaves → Parts write sync course old at from true mid
write_ended write sync course old at from mid failed schedule spare leaves = search (rules, other_bool)

-- a put whose write failed
pub put_failed : {T E : Type 0} (old : Prospect) (at : ℕ) (from : List ℕ) (wrote result : Result T E) (mid : Prospect) → WriteAsPlanned old at from wrote mid → is_err wrote ≡ true → is_err result ≡ true → PutPlanned old at from result mid
put_failed old at from wrote result mid write failed err = search (rules, write_ended)

sync_ended : (sync : Fate) (old : Outcome3 → List ℕ) (at : ℕ) (from : List ℕ) (mid new : Outcome3 → List ℕ) → ((o : Outcome3) → mid o ≡ written_as o (old o) at from) → LeavesAfterSync sync mid new
    → (is_failure sync ≡ is_ended (ending_by Runs sync)) × ((o : Outcome3) → new o ≡ left_by (ending_by Runs sync) old at from o)
sync_ended sync old at from mid new wrote leaves = grind arith

write_ran : (write : Fate) (course : Course) (old : Outcome3 → List ℕ) (at : ℕ) (from : List ℕ) (mid : Prospect) → is_failure write ≡ false → mid.schedule ≡ after_call write course.schedule → mid.spare ≡ spare_after_write write course.spare
    → LeavesAfterWrite write old at from mid.leaves → (write ≡ Runs) × (course_of mid ≡ after_write Runs course) × ((o : Outcome3) → mid.leaves o ≡ written_as o (old o) at from)
write_ran write course old at from mid ran schedule spare leaves = grind (arith, other_bool)

-- a put whose write ran
pub put_synced : {T E F : Type 0} (old : Prospect) (at : ℕ) (from : List ℕ) (wrote : Result T F) (result : Result T E) (mid new : Prospect) → WriteAsPlanned old at from wrote mid → is_err wrote ≡ false → SyncAsPlanned mid result new → PutPlanned old at from result new
put_synced old at from wrote result mid new write ran sync = search (rules, write_ran, sync_ended)

closed_test : (octets : List ℕ) (gate : ℕ) → gate_at octets gate ≢ open_gate →
    (gate_at octets gate == open_gate) ≡ false
closed_test octets gate shut = grind (arith, eqb_tells)

-- the gate after a write behind it, as each outcome leaves it
module _ (gate : ℕ) (octets : List ℕ) (inside : gate + 1 ≤ length octets) where
  before_written : (from : List ℕ) → gate_at (overwritten octets (gate + 1) from) gate ≡ gate_at octets gate
  before_written from =
      at_front gate (gate + 1) open_gate (overwritten octets (gate + 1) from) octets (omega arith)
      (ap (λ (l : List ℕ). take (gate + 1) l) (append_assoc (take (gate + 1) octets) from
      (drop (gate + 1 + length from) octets))
      ∙ take_at (take (gate + 1) octets) _ (gate + 1) (length-take-le (gate + 1) octets inside))

  behind_written : (framed : List ℕ) (outcome : Outcome3)
      → gate_at (written_as outcome octets (gate + 1) framed) gate ≡ gate_at octets gate
  behind_written framed outcome = grind (arith, before_written)

  at_written : (octet : ℕ) → gate_at (overwritten octets gate (octet ∷ [])) gate ≡ octet
  at_written octet =
      ap (λ (l : List ℕ). get_or l gate open_gate) (append_assoc (take gate octets) (octet ∷ []) (drop (gate + 1) octets))
      ∙ get_or_at (take gate octets) octet (drop (gate + 1) octets) open_gate gate (length-take-le gate octets (omega arith))

  module _ (old : Outcome3 → List ℕ) (shut : gate_at octets gate ≢ open_gate)
      (same : (o : Outcome3) → old o ≡ octets) where
    gate_written : (o : Outcome3) → (gate_at (written_as o (old o) gate (open_gate ∷ [])) gate == open_gate) ≡ is_new o
    gate_written o =
        ap (λ (l : List ℕ). gate_at (written_as o l gate (open_gate ∷ [])) gate == open_gate) (same o) ∙ here o
      where
        here : (o : Outcome3) → (gate_at (written_as o octets gate (open_gate ∷ [])) gate == open_gate) ≡ is_new o
        here Old = closed_test octets gate shut
        here New = ap (λ x. x == open_gate) (at_written open_gate)
        here Rot = ap (λ x. x == open_gate) (at_written 0x5A)

    -- whether it is open where the opening of the gate ended
    gate_ended : (ending : Ending) (o : Outcome3)
        → (gate_at (left_by ending old gate (open_gate ∷ []) o) gate == open_gate) ≡ batch_stands BothRan ending o
    gate_ended BothRan o = gate_written New
    gate_ended (AtWrite (Stops p)) o = gate_written p
    gate_ended (AtSync Fails) o = gate_written o
    gate_ended (AtSync (Stops p)) o = gate_written p
    gate_ended _ o = ap (λ (l : List ℕ). gate_at l gate == open_gate) (same o) ∙ closed_test octets gate shut

    shut_behind : (framed : List ℕ) (o : Outcome3) → gate_at (written_as o (old o) (gate + 1) framed) gate ≢ open_gate
    shut_behind framed o = grind (arith, behind_written)

    -- the gate stays closed where the writing of the frame ended
    frame_ended : (framed : List ℕ) (ending : Ending) → is_ended ending ≡ true
        → (o : Outcome3) → gate_at (left_by ending old (gate + 1) framed o) gate ≢ open_gate
    frame_ended framed ending is o = grind (arith, other_bool, shut_behind)

ended_parts : (first second : Ending) (one two : Course) → is_ended first ≡ true → (append_fails first second ≡ true) × (course_after first one two ≡ one) × ((o : Outcome3) → batch_stands first second o ≡ false)
ended_parts first second one two ended = grind (arith, other_bool)

ran_is : (ending : Ending) → is_ended ending ≡ false → ending ≡ BothRan
ran_is ending ran = grind (arith, other_bool)

module _ (old : Prospect) (gate : ℕ) (framed octets : List ℕ) (inside : gate + 1 ≤ length octets) (shut : gate_at octets gate ≢ open_gate) (same : (o : Outcome3) → old.leaves o ≡ octets) where
  -- the frame wasn't written
  pub append_stopped : {T E F : Type 0} (put : Result T F) (result : Result T E) (new : Prospect) → PutPlanned old (gate + 1) framed put new → is_err put ≡ true → is_err result ≡ true → AppendPlanned old gate result new
  append_stopped put result new planned failed err = search (rules, ended_parts, closed_test, frame_ended)

  -- it was, and the gate was written
  pub append_ended : {T E F : Type 0} (put : Result T F) (result : Result T E) (mid new : Prospect) → PutPlanned old (gate + 1) framed put mid → is_err put ≡ false → PutPlanned mid gate (open_gate ∷ []) result new → gate + 1 ≤ length (overwritten octets (gate + 1) framed)
      → AppendPlanned old gate result new
  append_ended put result mid new one ran two fits = search (rules, ran_is, gate_ended, before_written)

-- ---- how a sync and the reads after it come out as planned

-- a call ran: nothing is stopped
pub running : (s : Schedule) → is_failure (next_fate s) ≡ false → s.stopped ≡ false
running s ran = false_from_ne_true s.stopped (λ is. other_bool (sym (ap is_failure (stopped_fails s is).0) ∙ ran))

-- what the outcomes leave after a sync
left_after : (fate : Fate) (old new : Outcome3 → List ℕ) → LeavesAfterSync fate old new → (outcome : Outcome3) → new outcome ≡ old (outcome_left fate outcome)
left_after fate old new leaves outcome = grind arith

-- reads behind a sync and reads that came out as planned
pub sync_on : (old mid new : Prospect) (failed : Bool) → SyncPlanned old false mid → ReadOn mid new → (ReadsRun mid.schedule → failed ≡ false) → SyncPlanned old failed new
sync_on old mid new failed one read runs = record {
  fails = λ e. absurd (other_bool (sym (one.fails e)));
  runs = λ none. runs (running_after none) ∙ one.runs none;
  course = (λ i. record { schedule = read.schedule i; spare = read.spare i }) ∙ ap (λ (c : Course). with_reads new.schedule.reads c) one.course;
  leaves = λ outcome. read.leaves outcome ∙ one.leaves outcome;
}
  where
    stop_is : (fate : Fate) → is_failure fate ≡ false → is_stop fate ≡ false
    stop_is (Stops o) e = absurd (other_bool e)
    stop_is _ e = refl

    running_after : old.schedule.read_fail ≡ [] → ReadsRun mid.schedule
    running_after none = search (rules, running)

-- it ran, and reads followed
pub sync_ran : {T E : Type 0} (old : Prospect) (result : Result T E) (mid new : Prospect) (failed : Bool)
    → SyncAsPlanned old result mid → is_err result ≡ false → ReadOn mid new → (ReadsRun mid.schedule → failed ≡ false)
    → SyncPlanned old failed new
sync_ran old result mid new failed sync ran read runs =
    let not_failed : is_failure (sync_fate old) ≡ false = sym sync.fails ∙ ran in
    let came : course_of mid ≡ after_sync (sync_fate old) (course_of old) =
    λ i. record { schedule = sync.schedule i; spare = sync.spare i } in
    sync_on old mid new failed (record {
      fails = λ e. absurd (other_bool (sym e ∙ not_failed));
      runs = λ none. sym not_failed;
      course = ap (λ (c : Course). with_reads mid.schedule.reads c) came;
      leaves = left_after (sync_fate old) old.leaves mid.leaves sync.leaves;
    }) read runs

-- ---- how the calls of an opening come out as planned

-- the number of reads is nothing to the counted calls
pub ending_reads : (r : ℕ) (c : Course) → ending_of (with_reads r c) ≡ ending_of c
unfolding next_fate
ending_reads r c = refl

course_reads : (write sync : Fate) (r : ℕ) (c : Course) → course_by write sync (with_reads r c) ≡ with_reads r (course_by write sync c)
course_reads write sync r c = grind arith

pub put_reads : (r : ℕ) (c : Course) → after_put (with_reads r c) ≡ with_reads r (after_put c)
unfolding next_fate
put_reads r c = course_reads (fate_with c.spare (next_fate c.schedule)) (next_fate (after_call Runs c.schedule)) r c

course_after_reads : (e : Ending) (r : ℕ) (one two : Course) → course_after e (with_reads r one) (with_reads r two) ≡ with_reads r (course_after e one two)
course_after_reads e r one two = grind arith

pub append_reads : (r : ℕ) (c : Course) → after_append (with_reads r c) ≡ with_reads r (after_append c)
unfolding next_fate
append_reads r c =
    ap (λ d. course_after (ending_of c) d (after_put d)) (put_reads r c)
    ∙ ap (λ d. course_after (ending_of c) (with_reads r (after_put c)) d) (put_reads r (after_put c))
    ∙ course_after_reads (ending_of c) r (after_put c) (after_put (after_put c))

-- no call of an append is to fail
both_ran : (e f : Ending) → append_fails e f ≡ false → (e ≡ BothRan) × (is_ended f ≡ false)
both_ran e f runs = grind (arith, other_bool)

module _ (old : Course) (runs : append_fails (ending_of old) (ending_of (after_put old)) ≡ false) where
  pub first_runs : is_ended (ending_of old) ≡ false
  first_runs = ap is_ended (both_ran (ending_of old) (ending_of (after_put old)) runs).0

  pub second_runs : (r : ℕ) (mid : Course) → mid ≡ with_reads r (after_put old) → is_ended (ending_of mid) ≡ false
  second_runs r mid is = ap (λ c. is_ended (ending_of c)) is ∙ ap is_ended (ending_reads r (after_put old)) ∙ (both_ran (ending_of old) (ending_of (after_put old)) runs).1

fate_runs : (fate : Fate) → is_failure fate ≡ false → fate ≡ Runs
fate_runs fate runs = grind (arith, other_bool)

-- the plan behind a sync that ran and reads
pub looked : (old mid : Prospect) → SyncPlanned old false mid → is_failure (fate_of_sync (course_of old)) ≡ false → course_of mid ≡ with_reads mid.schedule.reads (after_sync Runs (course_of old))
looked old mid planned runs = grind (arith, fate_runs)

-- what was made behind reads
module _ {A : Type 0} {g : Ghosts A} where
  made_on : (result : Result (Journal A g) (OpenFault × A)) (r : ℕ) (mid old : Course) → mid ≡ with_reads r old → MadeBy g result mid → MadeBy g result old
  made_on result r mid old is made = search rules

  pub put_on : (result : Result (Journal A g) (OpenFault × A)) (r : ℕ) (mid old : Course) → mid ≡ with_reads r old → (is_ended (ending_of mid) ≡ false → MadeBy g result (after_put mid)) → is_ended (ending_of old) ≡ false → MadeBy g result (after_put old)
  put_on result r mid old is made runs = search (rules, made_on, put_reads, ending_reads)

  pub append_on : (result : Result (Journal A g) (OpenFault × A)) (r : ℕ) (mid old : Course) → mid ≡ with_reads r old → (append_fails (ending_of mid) (ending_of (after_put mid)) ≡ false → MadeBy g result (after_append mid))
      → append_fails (ending_of old) (ending_of (after_put old)) ≡ false → MadeBy g result (after_append old)
  unfolding next_fate
  append_on result r mid old is made runs =
      made_on result r (after_append mid) (after_append old) (ap after_append is ∙ append_reads r old)
      (made (ap (λ c. append_fails (ending_of c) (ending_of (after_put c))) is
      ∙ ap (λ c. append_fails (ending_of old) (ending_of c)) (put_reads r old) ∙ runs))
