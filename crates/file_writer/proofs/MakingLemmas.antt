-- One call, and calls one after the other.
use Rattle.std.proofs.Common.{◌≡◌, ◌≢◌, ◌⊎◌, ℕ, zero, suc, ◌+◌, ◌-◌, ◌≤◌, Bool, true, false, ◌||◌, if◌then◌else◌, IsTrue, List, [], ◌∷◌, ◌++◌, length, take, Result, Ok, Err, refl, sym, ap, ◌∙◌, arith, append_assoc, length-append, subst}
use Rattle.file_writer.proofs.Names.{after_call, AllRan, append-nil, Call, CallAsPlanned, calls_after, Comes, done_at, Ending, ending_at, ending_of, Failed, Fails, Fate, Ghosts, HasSealed, is_done, is_failure, IsErr, IsErrAnd, Makes, next_fate, Runs, Schedule, SealedFile, seals, ShelfFault, Stops, take-append-add, take-append-le, take-length, Went}
use Rattle.area_disk.specs.Armed.{Armed, Came, IsArmed, after_one, calls_under, later_by, one_later, then_calls}
use Rattle.area_disk.specs.Armed.Armed.{Fail, Stop}
use Rattle.area_disk.specs.Armed.Came.{Ran, FailedAt, StoppedAt}
use Rattle.area_disk.specs.ArmedLaws.{armed_failed, armed_next, armed_ran, calls_go_on}
use Rattle.area_disk.specs.Disk.{Rose, counted}
use Rattle.area_disk.specs.declared.plan.Outcome3.{Outcome3}
use Rattle.area_disk.specs.declared.plan.Outcome3.TheVariants.{New}
use Rattle.file_writer.proofs.CallsLemmas.{seals-append}

-- ---- one call

-- a call that seals nothing
pub unsealed_by : {old new : List SealedFile} → new ≡ old → new ≡ old ++ []
unsealed_by {old} e = e ∙ sym (append-nil old)

pub left_by_write : (fate : Fate) (old new : List SealedFile) → new ≡ old
    → new ≡ (if is_done fate then old ++ [] else old)
left_by_write fate old new e = search (arith, unsealed_by)

-- what so many calls sealed that have all done what they are to do
all_done : (calls : List Call) (ended : Ending) (n : ℕ) (old new : List SealedFile)
    → new ≡ old ++ seals (take n calls) → HasSealed calls ended n old new
all_done calls ended n old new e = search arith

module _ {A : Type 0} (tells : Ghosts A) (call : Call) (old new : A) where
  ran : {T E : Type 0} (x : T) (a : Armed) → CallAsPlanned {T = T} {E = E} (tells.plan old) (Ok x) (tells.plan new)
      → IsArmed a (tells.plan old)
      → next_fate (tells.plan old) ≡ Runs → AllRan tells (call ∷ []) Went 1 old new (after_one a)
  ran x a planned armed e = record {
    runs = refl;
    is_armed = rw (planned.schedule ∙ ap (λ (f : Fate). after_call f (tells.plan old)) e)
        (armed_ran a (tells.plan old) armed);
  }

  went_comes : {T E : Type 0} (x : T) → CallAsPlanned {T = T} {E = E} (tells.plan old) (Ok x) (tells.plan new) → (a : Armed)
      → IsArmed a (tells.plan old) → Comes tells (call ∷ []) Went 1 old new (calls_under a 1)
  went_comes x planned (Fail zero) armed = absurd (let e : false ≡ true = planned.fails
      ∙ ap is_failure (armed_next (Fail zero) _ armed) in cc)
  went_comes x planned (Stop zero outcome) armed = absurd (let e : false ≡ true = planned.fails
      ∙ ap is_failure (armed_next (Stop zero outcome) _ armed) in cc)
  went_comes x planned a armed = ran x a planned armed (armed_next a _ armed)

  -- a call that ran
  pub one_went : {T E : Type 0} {x : T} → (IsTrue tells.tells_calls → tells.calls new ≡ counted 1 (tells.calls old))
      → (IsTrue tells.tells_files → tells.files new ≡ tells.files old ++ seals (call ∷ []))
      → tells.faults new ≡ tells.faults old
      → (IsTrue tells.tells_plan → CallAsPlanned {T = T} {E = E} (tells.plan old) (Ok x) (tells.plan new))
      → Makes tells (call ∷ []) Went old new
  one_went {x = x} called sealed same planned = record {
    tried = 1;
    within = omega arith;
    all = λ e. refl;
    some = λ e. omega arith;
    called = called;
    sealed = λ told. all_done (call ∷ []) Went 1 (tells.files old) (tells.files new) (sealed told);
    faults = record { later = omega (arith, same); failed = λ e. absurd (cc); still = λ e. same };
    planned = λ told memory. went_comes x (planned told);
  }

  -- what a call that failed leaves by its fate
  abbrev Left : Fate → Type 0
  Left fate = tells.files new ≡ (if is_done fate then tells.files old ++ seals (call ∷ []) else tells.files old)

  stopped_left : (outcome : Outcome3) → Left (Stops outcome)
      → tells.files new ≡ tells.files old ++ seals (take (done_at 1 outcome) (call ∷ []))
  stopped_left New left = left
  stopped_left _ left = unsealed_by left

  or_true : (b : Bool) → (b || true) ≡ true
  or_true b = grind arith

  failed_comes : {T E : Type 0} (x : E) → CallAsPlanned {T = T} {E = E} (tells.plan old) (Err x) (tells.plan new)
      → (IsTrue tells.tells_files → Left (next_fate (tells.plan old)))
      → (a : Armed) → IsArmed a (tells.plan old) → Comes tells (call ∷ []) Failed 1 old new (calls_under a 1)
  failed_comes x planned left (Fail zero) armed =
      let e : next_fate (tells.plan old) ≡ Fails = armed_next (Fail zero) _ armed in
      record {
        fails = refl;
        number = refl;
        is_armed = rw (planned.schedule ∙ ap (λ (f : Fate). after_call f (tells.plan old)) e)
            (armed_failed (tells.plan old) armed);
        sealed = λ told. unsealed_by (subst (λ (f : Fate). Left f) e (left told));
      }
  failed_comes x planned left (Stop zero outcome) armed =
      let e : next_fate (tells.plan old) ≡ Stops outcome = armed_next (Stop zero outcome) _ armed in
      record {
        fails = refl;
        number = refl;
        stopped = ap (λ (s : Schedule). s.stopped) (planned.schedule
            ∙ ap (λ (f : Fate). after_call f (tells.plan old)) e) ∙ or_true (tells.plan old).stopped;
        sealed = λ told. stopped_left outcome (subst (λ (f : Fate). Left f) e (left told));
      }
  failed_comes x planned left a armed = absurd (let e : true ≡ false = planned.fails
      ∙ ap is_failure (armed_next a _ armed) in cc)

  maybe_sealed : (tells.files new ≡ tells.files old) ⊎ (tells.files new ≡ tells.files old ++ seals (call ∷ []))
      → HasSealed (call ∷ []) Failed 1 (tells.files old) (tells.files new)
  maybe_sealed h = grind (arith, unsealed_by, all_done)

  -- a call that failed
  pub one_failed : {T E : Type 0} {x : E} → (IsTrue tells.tells_calls → tells.calls new ≡ counted 1 (tells.calls old))
      → (IsTrue tells.tells_files → (tells.files new ≡ tells.files old)
      ⊎ (tells.files new ≡ tells.files old ++ seals (call ∷ [])))
      → tells.faults old ≤ tells.faults new → Rose (tells.faults old) (tells.faults new)
      → (IsTrue tells.tells_plan → CallAsPlanned {T = T} {E = E} (tells.plan old) (Err x) (tells.plan new))
      → (IsTrue tells.tells_plan → IsTrue tells.tells_files → Left (next_fate (tells.plan old)))
      → Makes tells (call ∷ []) Failed old new
  one_failed {x = x} called sealed later rose planned left = record {
    tried = 1;
    within = omega arith;
    all = λ e. refl;
    some = λ e. omega arith;
    called = called;
    sealed = λ told. maybe_sealed (sealed told);
    faults = record { later = later; failed = λ e. rose; still = λ e. absurd (cc) };
    planned = λ told memory. failed_comes x (planned told) (left told);
  }

-- ---- calls one after the other

after_both : (m n calls : ℕ) → calls_after (m + n) calls ≡ calls_after n (calls_after m calls)
after_both m zero calls = ap (λ (k : ℕ). calls_after k calls) (omega arith)
after_both m (suc n) calls =
    ap (λ (k : ℕ). calls_after k calls) {y = suc (m + n)} (omega arith) ∙ ap (counted 1) (after_both m n calls)

later_ran : (n : ℕ) (a : Armed) → later_by n (Ran a) ≡ Ran a
later_ran zero a = refl
later_ran (suc n) a = ap one_later (later_ran n a)

later_failed : (n k : ℕ) → later_by n (FailedAt k) ≡ FailedAt (n + k)
later_failed zero k = ap FailedAt (omega arith)
later_failed (suc n) k = ap one_later (later_failed n k) ∙ ap FailedAt (omega arith)

later_stopped : (n k : ℕ) (o : Outcome3) → later_by n (StoppedAt k o) ≡ StoppedAt (n + k) o
later_stopped zero k o = ap (λ (j : ℕ). StoppedAt j o) (omega arith)
later_stopped (suc n) k o = ap one_later (later_stopped n k o) ∙ ap (λ (j : ℕ). StoppedAt j o) (omega arith)

-- what calls seal that are the first ones of a list, and some behind them
seals_behind : (files before after : List SealedFile) (xs ys : List Call) (n : ℕ) → before ≡ files ++ seals xs
    → after ≡ before ++ seals (take n ys)
    → after ≡ files ++ seals (take (length xs + n) (xs ++ ys))
seals_behind files before after xs ys n e f = search (arith, append_assoc, seals-append, take-append-add)

less_one : (m k : ℕ) → 1 ≤ k → m + (k - 1) ≡ m + k - 1
less_one m k h = omega arith

done_later : (m k : ℕ) (o : Outcome3) → 1 ≤ k → m + done_at k o ≡ done_at (m + k) o
done_later m k o h = grind (arith, less_one)

done_within : (k : ℕ) (o : Outcome3) → done_at k o ≤ k
done_within k o = grind arith

-- calls that seal the same, as far as they were made
comes_as : {A : Type 0} (tells : Ghosts A) (xs ys : List Call) (ended : Ending) (tried : ℕ) (old new : A)
    → (IsTrue tells.tells_files → (k : ℕ) → k ≤ tried → seals (take k xs) ≡ seals (take k ys))
    → (came : Came) → Comes tells xs ended tried old new came → Comes tells ys ended tried old new came
comes_as tells xs ys ended tried old new same came c = grind (arith, done_within)

-- calls that seal the same, as far as they were made
pub makes_as : {A : Type 0} (tells : Ghosts A) (xs ys : List Call) (ended : Ending) (old new : A)
    (made : Makes tells xs ended old new) → made.tried ≤ length ys → (ended ≡ Went → length xs ≡ length ys)
    → (IsTrue tells.tells_files → (k : ℕ) → k ≤ made.tried → seals (take k xs) ≡ seals (take k ys))
    → ((a : Armed) → Comes tells ys ended made.tried old new (calls_under a (length xs))
    → Comes tells ys ended made.tried old new (calls_under a (length ys)))
    → Makes tells ys ended old new
makes_as tells xs ys ended old new made within long same under = search (arith, made.sealed, comes_as, made.planned)

module _ {A : Type 0} (tells : Ghosts A) (xs ys : List Call) where
  -- the files after calls that all ran
  pub all_sealed : (old new : A) → Makes tells xs Went old new → IsTrue tells.tells_files
      → tells.files new ≡ tells.files old ++ seals xs
  all_sealed old new made told =
      cc ((made.sealed told).files, (made.sealed told).each refl, made.all refl, take-length xs)

  comes_behind : (ended : Ending) (tried : ℕ) (old mid new : A) → Makes tells xs Went old mid
      → (ended ≡ Failed → 1 ≤ tried) → (came : Came)
      → Comes tells ys ended tried mid new came
      → Comes tells (xs ++ ys) ended (length xs + tried) old new (later_by (length xs) came)
  comes_behind ended tried old mid new first some (Ran a) c = search (arith, later_ran)
  comes_behind ended tried old mid new first some (FailedAt k) c =
      rw (later_failed (length xs) k) (record {
        fails = c.fails;
        number = ap (λ (n : ℕ). length xs + n) c.number;
        is_armed = c.is_armed;
        sealed = λ told. seals_behind _ _ _ xs ys (k - 1) (all_sealed old mid first told) (c.sealed told)
            ∙ ap (λ (n : ℕ). tells.files old ++ seals (take n (xs ++ ys)))
            (less_one (length xs) k (omega (arith, c.number, some c.fails)));
      })
  comes_behind ended tried old mid new first some (StoppedAt k o) c =
      rw (later_stopped (length xs) k o) (record {
        fails = c.fails;
        number = ap (λ (n : ℕ). length xs + n) c.number;
        stopped = c.stopped;
        sealed = λ told. seals_behind _ _ _ xs ys (done_at k o) (all_sealed old mid first told) (c.sealed told)
            ∙ ap (λ (n : ℕ). tells.files old ++ seals (take n (xs ++ ys)))
            (done_later (length xs) k o (omega (arith, c.number, some c.fails)));
      })

  comes_then : (ended : Ending) (tried : ℕ) (old mid new : A) → Makes tells xs Went old mid
      → (ended ≡ Failed → 1 ≤ tried) → (came : Came)
      → Comes tells xs Went (length xs) old mid came
      → ((b : Armed) → IsArmed b (tells.plan mid) → Comes tells ys ended tried mid new (calls_under b (length ys)))
      → Comes tells (xs ++ ys) ended (length xs + tried) old new (then_calls (length xs) (length ys) came)
  comes_then ended tried old mid new first some (Ran b) c next = search (arith, comes_behind)
  comes_then ended tried old mid new first some _ c next = absurd (let e : Went ≡ Failed = c.fails in cc)

  -- calls that all ran, and then others
  pub makes_then : (ended : Ending) (old mid new : A) → Makes tells xs Went old mid → Makes tells ys ended mid new
      → Makes tells (xs ++ ys) ended old new
  makes_then ended old mid new first next =
      let long : length (xs ++ ys) ≡ length xs + length ys = length-append xs ys in
      record {
        tried = length xs + next.tried;
        within = omega (arith, next.within);
        all = λ e. ap (λ (n : ℕ). length xs + n) (next.all e) ∙ sym long;
        some = λ e. omega (arith, next.some e);
        called = search (arith, first.called, first.all, after_both);
        sealed = λ told. let s = next.sealed told in record {
          count = length xs + s.count;
          at_most = omega (arith, s.at_most);
          at_least = omega (arith, s.at_least);
          each = λ e. ap (λ (n : ℕ). length xs + n) (s.each e);
          files = seals_behind _ _ _ xs ys s.count (all_sealed old mid first told) s.files;
        };
        faults = record {
          later = omega (arith, first.faults.later, next.faults.later);
          failed = λ e. omega (arith, first.faults.later, next.faults.failed e);
          still = λ e. next.faults.still e ∙ first.faults.still refl;
        };
        planned = λ told memory a armed.
            rw (long, calls_go_on a (length xs) (length ys))
            (comes_then ended next.tried old mid new first next.some (calls_under a (length xs))
            (rw (first.all refl) at (first.planned told refl a armed))
            (λ b is_armed. next.planned told memory b is_armed));
      }

  comes_first : (ended : Ending) (tried n : ℕ) (old new : A) → ended ≢ Went → (came : Came)
      → Comes tells (xs ++ ys) ended tried old new came
      → Comes tells (xs ++ ys) ended tried old new (then_calls (length xs) n came)
  comes_first ended tried n old new stops came c = grind arith

  pub makes_stop : (ended : Ending) (old new : A) → ended ≢ Went → Makes tells xs ended old new
      → Makes tells (xs ++ ys) ended old new
  makes_stop ended old new stops first =
      search (arith, makes_as, length-append, take-append-le, calls_go_on, comes_first)

-- no calls
pub makes_none : {A : Type 0} (tells : Ghosts A) (here : A) → Makes tells [] Went here here
makes_none tells here = search (arith, unsealed_by)

-- calls that are the same
pub by_calls : {A : Type 0} {tells : Ghosts A} {xs ys : List Call} {ended : Ending} {old new : A} → xs ≡ ys
    → Makes tells xs ended old new → Makes tells ys ended old new
by_calls {tells = tells} {ended = ended} {old = old} {new = new} e made = search arith

-- ---- by the results of functions

pub ending_err : (e : ShelfFault) → ending_at e ≢ Went
ending_err e same = grind arith

-- the last calls didn't all run, and so the function ended
pub ended_at : {A U : Type 0} (tells : Ghosts A) (xs : List Call) (old new : A) (q : Result U ShelfFault)
    (e : ShelfFault)
    → IsErr q × IsErrAnd q (λ x. x ≡ e) → Makes tells xs (ending_at e) old new → Makes tells xs (ending_of q) old new
ended_at tells xs old new q e h made = grind arith

-- the first calls didn't all run, and so the function ended
pub stopped_at : {A U : Type 0} (tells : Ghosts A) (xs ys : List Call) (old new : A) (q : Result U ShelfFault)
    (e : ShelfFault)
    → IsErr q × IsErrAnd q (λ x. x ≡ e) → Makes tells xs (ending_at e) old new
    → Makes tells (xs ++ ys) (ending_of q) old new
stopped_at tells xs ys old new q e h first = search (arith, ended_at, makes_stop, ending_err)
