-- What a plan that arms one call makes of the calls to come.
use Rattle.std.proofs.Common.{◌≡◌, ⊎_elim, ℕ, zero, suc, ◌+◌, ◌<◌, ◌≤◌, min, Bool, true, false, ◌||◌, ◌&&◌, ◌==◌, nat_lt, if◌then◌else◌, List, [], ◌∷◌, Option, None, Some, refl, sym, ◌∙◌, ap, arith}
use Rattle.std.proofs.lemmas.Bool.{cases_lt}
use Rattle.std.proofs.lemmas.Bool.Decides.{nat_tests, eqb_tells}
use Rattle.area_disk.specs.Disk.{last_count, counted}
use Rattle.area_disk.specs.Plan.{Schedule, planned_for, fate_where, next_fate, next_read_fails, after_call, is_among, stop_at, is_stop, with_reads, armed}
use Rattle.area_disk.specs.Armed.{Armed, Came, planned_in, after_one, one_later, calls_under, later_by, then_calls, Reaches, ReadsRun, IsArmed}
use Rattle.area_disk.specs.Armed.Armed.{Nothing, Fail, Stop}
use Rattle.area_disk.specs.Armed.Came.{Ran, FailedAt, StoppedAt}
use Rattle.area_disk.specs.declared.plan.Fate.{Fate}
use Rattle.area_disk.specs.declared.plan.Fate.TheVariants.{Runs, Fails, Stops}
use Rattle.area_disk.specs.declared.plan.Outcome3.{Outcome3}
use Rattle.area_disk.specs.declared.plan.Plan.{Plan}
use Rattle.area_disk.specs.declared.plan.Stop.{Stop as Halt}

-- where calls have no numbers any more, nothing is armed
past_numbers : (a : Armed) (calls : ℕ) → Reaches a calls → last_count ≤ calls → (d : ℕ) → planned_in a d ≡ Runs
past_numbers Nothing calls within past d = refl
past_numbers (Fail k) calls within past d = absurd (omega (arith, within, past))
past_numbers (Stop k outcome) calls within past d = absurd (omega (arith, within, past))

-- the next counted call comes out as is armed
pub armed_next : (a : Armed) (s : Schedule) → IsArmed a s → next_fate s ≡ planned_in a 0
unfolding next_fate
armed_next a s is =
    ap (λ b. fate_where b (nat_lt s.calls last_count) (planned_for s (s.calls + 1))) is.running
    ∙ ⊎_elim numbered past (cases_lt s.calls last_count)
  where
    numbered : s.calls < last_count → fate_where false (nat_lt s.calls last_count) (planned_for s (s.calls + 1)) ≡ planned_in a 0
    numbered below =
        let is_true : nat_lt s.calls last_count ≡ true = grind (arith, nat_tests) in
        let number : s.calls + 1 ≡ min s.calls last_count + 1 + 0 = omega (arith, below) in
        ap (λ b. fate_where false b (planned_for s (s.calls + 1))) is_true ∙ ap (λ n. planned_for s n) number ∙ is.ahead 0

    past : last_count ≤ s.calls → fate_where false (nat_lt s.calls last_count) (planned_for s (s.calls + 1)) ≡ planned_in a 0
    past le =
        let is_false : nat_lt s.calls last_count ≡ false = grind (arith, nat_tests) in
        ap (λ b. fate_where false b (planned_for s (s.calls + 1))) is_false ∙ sym (past_numbers a s.calls is.within le 0)

-- what is armed after one call is what was armed before it, one call later
one_later_in : (a : Armed) (d : ℕ) → planned_in a (suc d) ≡ planned_in (after_one a) d
one_later_in Nothing d = refl
one_later_in (Fail zero) d = refl
one_later_in (Fail (suc k)) d = refl
one_later_in (Stop zero outcome) d = refl
one_later_in (Stop (suc k) outcome) d = refl

reaches_after : (a : Armed) (calls : ℕ) → Reaches a calls → Reaches (after_one a) (counted 1 calls)
reaches_after Nothing calls within = tt
reaches_after (Fail zero) calls within = tt
reaches_after (Fail (suc k)) calls within = omega (arith, within)
reaches_after (Stop zero outcome) calls within = tt
reaches_after (Stop (suc k) outcome) calls within = omega (arith, within)

-- after a call that didn't stop the object, one call less runs before the armed one
pub armed_after : (a : Armed) (s : Schedule) (fate : Fate) → is_stop fate ≡ false → IsArmed a s → IsArmed (after_one a) (after_call fate s)
armed_after a s fate goes_on is = record {
  running = ap (λ b. b || is_stop fate) is.running ∙ goes_on;
  reads = is.reads;
  within = reaches_after a s.calls is.within;
  ahead = λ d. ⊎_elim (numbered d) (past d) (cases_lt s.calls last_count);
}
  where
    numbered : (d : ℕ) → s.calls < last_count → planned_for s (min (counted 1 s.calls) last_count + 1 + d) ≡ planned_in (after_one a) d
    numbered d below =
        let number : min (counted 1 s.calls) last_count + 1 + d ≡ min s.calls last_count + 1 + suc d = omega (arith, below) in
        ap (λ n. planned_for s n) number ∙ is.ahead (suc d) ∙ one_later_in a d

    past : (d : ℕ) → last_count ≤ s.calls → planned_for s (min (counted 1 s.calls) last_count + 1 + d) ≡ planned_in (after_one a) d
    past d le =
        let number : min (counted 1 s.calls) last_count + 1 + d ≡ min s.calls last_count + 1 + d = omega (arith, le) in
        let none : planned_in a d ≡ Runs = past_numbers a s.calls is.within le d in
        let none_after : planned_in (after_one a) d ≡ Runs = past_numbers (after_one a) (counted 1 s.calls) (reaches_after a s.calls is.within) (omega (arith, le)) d in
        ap (λ n. planned_for s n) number ∙ is.ahead d ∙ none ∙ sym none_after

-- after a call that ran
pub armed_ran : (a : Armed) (s : Schedule) → IsArmed a s → IsArmed (after_one a) (after_call Runs s)
armed_ran a s is = armed_after a s Runs refl is

-- after the call that was to fail, nothing is armed
pub armed_failed : (s : Schedule) → IsArmed (Fail zero) s → IsArmed Nothing (after_call Fails s)
armed_failed s is = armed_after (Fail zero) s Fails refl is

-- reads leave what is armed
pub armed_reads : (a : Armed) (s : Schedule) (reads : ℕ) → IsArmed a s → IsArmed a (with_reads reads s)
armed_reads a s reads is = record { running = is.running; reads = is.reads; within = is.within; ahead = is.ahead }

and_none : (b : Bool) → (b && false) ≡ false
and_none true = refl
and_none false = refl

-- where no read is to fail, the next one doesn't
pub reads_run : (s : Schedule) → ReadsRun s → next_read_fails s ≡ false
unfolding next_read_fails
reads_run s is =
    ap (λ b. b || (nat_lt s.reads last_count && is_among s.read_fail (s.reads + 1))) is.running
    ∙ ap (λ (l : List ℕ). nat_lt s.reads last_count && is_among l (s.reads + 1)) is.reads
    ∙ and_none (nat_lt s.reads last_count)

pub armed_reads_run : (a : Armed) (s : Schedule) → IsArmed a s → ReadsRun s
armed_reads_run a s is = record { running = is.running; reads = is.reads }

-- from a stop on every call fails
pub stopped_fails : (s : Schedule) → s.stopped ≡ true → (next_fate s ≡ Fails) × (next_read_fails s ≡ true)
unfolding next_fate next_read_fails
stopped_fails s stopped = (
  ap (λ b. fate_where b (nat_lt s.calls last_count) (planned_for s (s.calls + 1))) stopped,
  ap (λ b. b || (nat_lt s.reads last_count && is_among s.read_fail (s.reads + 1))) stopped,
)

-- the fate of a call by the only number that is listed
fails_at : (k : ℕ) → planned_in (Fail k) k ≡ Fails
fails_at zero = refl
fails_at (suc k) = fails_at k

fails_off : (k d : ℕ) → ¬ (k ≡ d) → planned_in (Fail k) d ≡ Runs
fails_off zero zero other = absurd (other refl)
fails_off zero (suc d) other = refl
fails_off (suc k) zero other = refl
fails_off (suc k) (suc d) other = fails_off k d (λ same. other (ap suc same))

stops_at : (k : ℕ) (outcome : Outcome3) → planned_in (Stop k outcome) k ≡ Stops outcome
stops_at zero outcome = refl
stops_at (suc k) outcome = stops_at k outcome

stops_off : (k d : ℕ) (outcome : Outcome3) → ¬ (k ≡ d) → planned_in (Stop k outcome) d ≡ Runs
stops_off zero zero outcome other = absurd (other refl)
stops_off zero (suc d) outcome other = refl
stops_off (suc k) zero outcome other = refl
stops_off (suc k) (suc d) outcome other = stops_off k d outcome (λ same. other (ap suc same))

fate_by_number : (k d : ℕ) → (if (k + 1 == 0 + 1 + d) || false then Fails else Runs) ≡ planned_in (Fail k) d
fate_by_number k d = ⊎_elim
    (λ here. ap (λ b. if b || false then Fails else Runs) here.0 ∙ sym (fails_at k) ∙ ap (λ e. planned_in (Fail k) e) (omega (arith, here.1)))
    (λ off. ap (λ b. if b || false then Fails else Runs) off.0 ∙ sym (fails_off k d (λ same. off.1 (omega (arith, same)))))
    (eqb_tells (k + 1) (0 + 1 + d))

stop_by_number : (k d : ℕ) (outcome : Outcome3) → (if k + 1 == 0 + 1 + d then Stops outcome else Runs) ≡ planned_in (Stop k outcome) d
stop_by_number k d outcome = ⊎_elim
    (λ here. ap (λ b. if b then Stops outcome else Runs) here.0 ∙ sym (stops_at k outcome) ∙ ap (λ e. planned_in (Stop k outcome) e) (omega (arith, here.1)))
    (λ off. ap (λ b. if b then Stops outcome else Runs) off.0 ∙ sym (stops_off k d outcome (λ same. off.1 (omega (arith, same)))))
    (eqb_tells (k + 1) (0 + 1 + d))

-- a plan of one failure that is armed before the next call
module _ (plan : Plan) (s : Schedule) (running : s.stopped ≡ false) (reads : plan.read_fail.items ≡ []) where
  pub arms_nothing : plan.fail.items ≡ [] → plan.stop ≡ None → IsArmed Nothing (armed plan s)
  arms_nothing fail stop = record {
    running = running;
    reads = reads;
    within = tt;
    ahead = λ d.
        ap (λ (l : List ℕ). if is_among l (0 + 1 + d) then Fails else stop_at plan.stop (0 + 1 + d)) fail
        ∙ ap (λ (o : Option Halt). stop_at o (0 + 1 + d)) stop;
  }

  pub arms_fail : (k : ℕ) → k < last_count → plan.fail.items ≡ (k + 1) ∷ [] → plan.stop ≡ None → IsArmed (Fail k) (armed plan s)
  arms_fail k low fail stop = record {
    running = running;
    reads = reads;
    within = omega (arith, low);
    ahead = λ d.
        ap (λ (l : List ℕ). if is_among l (0 + 1 + d) then Fails else stop_at plan.stop (0 + 1 + d)) fail
        ∙ ap (λ (o : Option Halt). if is_among ((k + 1) ∷ []) (0 + 1 + d) then Fails else stop_at o (0 + 1 + d)) stop
        ∙ fate_by_number k d;
  }

  pub arms_stop : (k : ℕ) (outcome : Outcome3) → k < last_count → plan.fail.items ≡ [] → plan.stop ≡ Some (record { call = k + 1; outcome = outcome }) → IsArmed (Stop k outcome) (armed plan s)
  arms_stop k outcome low fail stop = record {
    running = running;
    reads = reads;
    within = omega (arith, low);
    ahead = λ d.
        ap (λ (l : List ℕ). if is_among l (0 + 1 + d) then Fails else stop_at plan.stop (0 + 1 + d)) fail
        ∙ ap (λ (o : Option Halt). stop_at o (0 + 1 + d)) stop
        ∙ stop_by_number k d outcome;
  }

-- calls one after the other
suc_first : (m n : ℕ) → suc m + n ≡ suc (m + n)
suc_first m n = omega arith

nothing_comes : (n : ℕ) → calls_under Nothing n ≡ Ran Nothing
nothing_comes zero = refl
nothing_comes (suc n) = refl

ran_later : (n : ℕ) (a : Armed) → later_by n (Ran a) ≡ Ran a
ran_later zero a = refl
ran_later (suc n) a = ap one_later (ran_later n a)

one_later_then : (m n : ℕ) (came : Came) → one_later (then_calls m n came) ≡ then_calls (suc m) n (one_later came)
one_later_then m n (Ran a) = refl
one_later_then m n (FailedAt k) = refl
one_later_then m n (StoppedAt k outcome) = refl

pub calls_go_on : (a : Armed) (m n : ℕ) → calls_under a (m + n) ≡ then_calls m n (calls_under a m)
calls_go_on a zero n = ap (λ k. calls_under a k) (omega arith)
calls_go_on Nothing (suc m) n = nothing_comes (suc m + n) ∙ sym (ap (λ c. later_by (suc m) c) (nothing_comes n) ∙ ran_later (suc m) Nothing)
calls_go_on (Fail zero) (suc m) n = ap (λ k. calls_under (Fail zero) k) (suc_first m n)
calls_go_on (Fail (suc k)) (suc m) n =
    ap (λ j. calls_under (Fail (suc k)) j) (suc_first m n)
    ∙ ap one_later (calls_go_on (Fail k) m n)
    ∙ one_later_then m n (calls_under (Fail k) m)
calls_go_on (Stop zero outcome) (suc m) n = ap (λ k. calls_under (Stop zero outcome) k) (suc_first m n)
calls_go_on (Stop (suc k) outcome) (suc m) n =
    ap (λ j. calls_under (Stop (suc k) outcome) j) (suc_first m n)
    ∙ ap one_later (calls_go_on (Stop k outcome) m n)
    ∙ one_later_then m n (calls_under (Stop k outcome) m)
