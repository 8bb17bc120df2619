-- How an opening comes out as planned.
use Rattle.std.proofs.Common.{◌≡◌, ◌≢◌, ◌⊎◌, inl, inr, ⊎_elim, ℕ, ◌≤◌, List, [], ◌++◌, Result, Ok, Err, length, get_or, refl, sym, ◌∙◌, ap, arith, Bool, false, rules}
use Rattle.cgf_journal.proofs.Names.{after_append, after_look, All-nil, area_of, AreaLaws, AreFit, AreListedBefore, BreaksAt, by_batches, course_of, Device, end_of, entries_in, EntriesAreReadBack, false_from_ne_true, Fate, firm_entries, first-header, follow, Ghosts, header, HistoryEntry, IfErr, IfOk, in_batches, is_device, is_device_fault, is_failure, is_stop, IsContent, IsForeign, IsForeignTo, IsMaking, IsTrue, IsUnfitTo, Journal, Kept, Leaves, length-header, next_fate, NoMemory, NotOurs, OnErr, OpenCounts, OpenFault, OpenLeaves, Prospect, ReadOn, ReadsRun, Schedule, Stands, stands_before, StandsFit, StandsFor, Starts, SyncPlanned, Told, Trail, true≢false, widen, with_reads, ◌||◌}
use Rattle.area_disk.specs.ArmedLaws.{stopped_fails}
use Rattle.gate_journal.specs.Journal as journal
use Rattle.gate_journal.specs.OpenPlanned as gates
use Rattle.gate_journal.specs.Opening as opening
use Rattle.gate_journal.specs.Planned.{Course}
use Rattle.cgf_journal.specs.OpenPlan.{OpenFollows}
use Rattle.cgf_journal.specs.Results.{FindsHistory, IsFresh, IsMadeAnew, IsOpened, IsRefused, IsTrailOf, OnArea, RefusesForeign, RoseByDevice}
use Rattle.cgf_journal.proofs.Meanings.{are_fit, are_fit-first, unfit_foreign, broken_off, broken_or_starts, foreign_or_starts, one_place, spoiled_by, stands_or_foreign, stands_or_starts}

pub not_device : (fault : OpenFault) → fault ≢ Device → is_device_fault fault ≡ false
not_device fault other = grind arith

-- a call ran: nothing is stopped
running : (s : Schedule) → is_failure (next_fate s) ≡ false → s.stopped ≡ false
running s ran = false_from_ne_true s.stopped (λ is. true≢false (sym (ap is_failure (stopped_fails s is).0) ∙ ran))

stop_is : (fate : Fate) → is_failure fate ≡ false → is_stop fate ≡ false
stop_is fate e = grind arith

-- the plan after reads
pub read_course : (mid new : Prospect) → ReadOn mid new → (course : Course) → course_of mid ≡ with_reads mid.schedule.reads course
    → course_of new ≡ with_reads new.schedule.reads course
read_course mid new read course is = grind arith

-- reads after a sync and reads that came out as planned
pub sync_on : (old mid new : Prospect) (failed : Bool) → SyncPlanned old false mid → ReadOn mid new → (ReadsRun mid.schedule → failed ≡ false) → SyncPlanned old failed new
sync_on old mid new failed one read runs = record {
  fails = λ e. absurd (true≢false (sym (one.fails e)));
  runs = λ none. runs (running_after none) ∙ one.runs none;
  course = (λ i. record { schedule = read.schedule i; spare = read.spare i })
      ∙ ap (λ (c : Course). with_reads new.schedule.reads c) one.course;
  leaves = λ outcome. read.leaves outcome ∙ one.leaves outcome;
}
  where
    running_after : old.schedule.read_fail ≡ [] → ReadsRun mid.schedule
    running_after none =
        let ran = sym (one.runs none) in
        record {
          running = ap (λ (c : Course). c.schedule.stopped) one.course ∙ ap (λ b. b || is_stop (next_fate old.schedule)) (running old.schedule ran) ∙ stop_is (next_fate old.schedule) ran;
          reads = ap (λ (c : Course). c.schedule.read_fail) one.course ∙ none;
        }

-- ---- what an opening gives, by what its steps give

pub other_fault : {at : ℕ} → ◌≡◌ {A = OpenFault} (NotOurs at) Device → ⊥
other_fault e = cc

-- no batch stands for no entry
stands_for_none : (header octets : List ℕ) → Stands header octets [] → StandsFor header octets []
stands_for_none header octets stands = by_batches header octets [] stands (record { contents = All-nil IsContent; costs = omega arith })

module _ {A : Type 0} (tells : Ghosts A) (area : A) (address generation : ℕ) (fits : ℕ → List HistoryEntry → HistoryEntry → Type 0) where
  abbrev pub asked : List ℕ
  asked = header (tells.size area) address generation

  abbrev pub here : List ℕ
  here = tells.octets area

  abbrev pub Answer : Type 0
  Answer = Result (Trail A tells) (OpenFault × A)

  long : length asked ≡ 32
  long = length-header (tells.size area) address generation

  begins : get_or asked 0 0 ≡ 67
  begins = first-header (tells.size area) address generation

  abbrev pub Are : List (List ℕ) → Type 0
  Are = AreFit fits (length here)

  first : (some more : List (List ℕ)) → Are (some ++ more) → Are some
  first = are_fit-first fits (length here)

  -- what stands, is unfit or is foreign doesn't start
  stands_unlike : (h : List HistoryEntry) → StandsFit fits asked here h → Starts asked here → ⊥
  stands_unlike h is starts = stands_or_starts asked long here begins h is.stands starts

  unfit_unlike : (at : ℕ) → IsUnfitTo fits asked here at → Starts asked here → ⊥
  unfit_unlike at foreign starts = foreign_or_starts asked long here Are first begins at foreign starts

  pub foreign_unlike : (at : ℕ) → IsForeign asked here at → Starts asked here → ⊥
  foreign_unlike at (inl differs) starts = differs.begun starts
  foreign_unlike at (inr broken) starts = broken_or_starts asked long here begins at broken starts

  -- a fault of an area that is foreign
  fault_is : (fault : OpenFault) → ((at : ℕ) → fault ≡ NotOurs at → IsUnfitTo fits asked here at) → (at : ℕ) → IsUnfitTo fits asked here at
      → (fault ≡ NotOurs at) ⊎ ((fault ≡ Device) ⊎ (fault ≡ NoMemory))
  fault_is (NotOurs k) place at foreign = inl (ap NotOurs (one_place asked long here Are first k at (place k refl) foreign))
  fault_is Device place at foreign = inr (inl refl)
  fault_is NoMemory place at foreign = inr (inr refl)

  -- the place that a refused area has, by what was listed before it
  pub place_is : IsTrue tells.tells_octets → (size : ℕ) → length here ≡ size → (at place : ℕ) (fault : OpenFault) → IsForeign asked here at → (at ≤ 32 → fault ≡ NotOurs at)
      → ((all : List (List ℕ)) → AreListedBefore tells.tells_octets here at all → (k : ℕ) → fault ≡ NotOurs k → BreaksAt (AreFit fits size) all k ⊎ (AreFit fits size all × (k ≡ at)))
      → fault ≡ NotOurs place → IsUnfitTo fits asked here place
  place_is told size sized at place fault holds early among is = grind (arith, long, spoiled_by, first, broken_off)

  -- what a crash leaves, after calls that keep the area, and where it is made anew
  pub later : (mid now : A) → OpenLeaves tells area asked mid → Kept tells mid now → OpenLeaves tells area asked now
  later mid now leaves kept = search (rules, follow)

  making : (now : A) → Leaves tells area now (λ c. tells.may_leave area c ⊎ IsMaking asked c) → Leaves tells area now (λ c. tells.may_leave area c ⊎ (Starts asked c ⊎ StandsFor asked c []))
  making now leaves =
      widen tells area now (λ c. tells.may_leave area c ⊎ IsMaking asked c) (λ c. tells.may_leave area c ⊎ (Starts asked c ⊎ StandsFor asked c []))
      (λ c left. ⊎_elim (λ l. inl l) (λ (making : IsMaking asked c). inr (⊎_elim (λ starts. inl starts) (λ stands. inr (stands_for_none asked c stands)) making)) left) leaves

  -- what an opening gives of an area that stands, starts or is foreign
  pub record Gives (r : Answer) : Type 0 where
    pub reads : Told tells → (h : List HistoryEntry) → StandsFit fits asked here h → FindsHistory tells area r h
    pub anew : Told tells → Starts asked here → IsMadeAnew tells asked area r
    pub foreign : Told tells → (at : ℕ) → IsUnfitTo fits asked here at → RefusesForeign tells area r at

  pub refuses : (fault : OpenFault) (now : A) → OpenLeaves tells area asked now → (Told tells → (at : ℕ) → fault ≡ NotOurs at → IsUnfitTo fits asked here at) → Gives (Err (fault, now))
  refuses fault now leaves place = record {
    reads = λ told h stands. record { listed = tt; moments = leaves.unmade told (stands_unlike h stands); calls = λ tell. tt };
    anew = λ told starts. record { listed = tt; moments = making now (leaves.anew told starts); calls = λ tell. tt };
    foreign = λ told at foreign. record { place = fault_is fault (place told) at foreign; moments = leaves.unmade told (unfit_unlike at foreign) };
  }

  -- what is known of a trail over an opened journal, or of why there is none
  pub record Over (size : ℕ) (Asked : List HistoryEntry → Type 0) (j : Journal A tells) (r : Answer) : Type 0 where
    pub taken : Told tells → IfOk r (λ trail. IsTrailOf fits size (journal.batches j) Asked trail)
    pub fresh : IfOk r (λ trail. IsFresh (journal.header_of j) trail)
    pub breaks : Told tells → IfErr r (λ fault. (at : ℕ) → fault.0 ≡ NotOurs at → BreaksAt (AreFit fits size) (journal.batches j) at)
    pub some : Told tells → OnErr r (journal.batches j ≢ [])
    pub kept : OnArea r (λ now. Kept tells (journal.area_of j) now)
    pub cause : RoseByDevice tells (journal.area_of j) r
    pub runs : IsTrue tells.tells_fate → ReadsRun (tells.fate (journal.area_of j)).schedule → is_device r ≡ false

  pub record Opens (Asked : List HistoryEntry → Type 0) (r : Answer) : Type 0 where
    pub ok : IfOk r (λ trail. IsOpened tells asked area (StandsFit fits asked) trail)
    pub follows : Told tells → IfOk r (λ trail. Asked (firm_entries trail))
    pub err : IfErr r (λ fault. IsRefused tells area (IsUnfitTo fits asked) fault)
    pub gives : Gives r
    pub size : OnArea r (λ now. tells.size now ≡ tells.size area)
    pub planned : IsTrue tells.tells_fate → OpenFollows tells area r asked

  module _ (back : EntriesAreReadBack) (laws : AreaLaws tells) (Asked : List HistoryEntry → Type 0) (size : ℕ) (size_is : size ≡ tells.size area) (j : Journal A tells) (opened : opening.IsOpened tells area asked j) (counted : OpenCounts tells area (Ok j) asked)
      (leaves : OpenLeaves tells area asked (journal.area_of j)) (same_size : tells.size (journal.area_of j) ≡ tells.size area) (planned : IsTrue tells.tells_fate → gates.OpenFollows tells area (Ok j) asked) where
    sized : Told tells → length here ≡ size
    sized told = laws.whole area told.0 ∙ sym size_is

    there : Told tells → Starts asked here ⊎ Stands asked here (journal.batches j)
    there told = search rules

    found : (trail : Trail A tells) → Over size Asked j (Ok trail) → Told tells → StandsFit fits asked here (firm_entries trail) ⊎ (Starts asked here × (firm_entries trail ≡ []))
    found trail over told = grind (arith, sized, by_batches, there)

    pub opens : (r : Answer) → Over size Asked j r → Opens Asked r
    opens (Ok trail) over =
        let left = later (journal.area_of j) (area_of trail) leaves over.kept in
        record {
          ok = record { found = found trail over; fresh = rw opened.header at over.fresh; faults = over.cause.faults ∙ counted.cause.faults };
          follows = λ told. (over.taken told).asked;
          err = tt;
          gives = record {
            reads = λ told h stands.
                let list = in_batches back asked here h stands.stands in
                record {
                  listed = (over.taken told).entries ∙ ap entries_in (opened.reads told list.batches list.stands) ∙ sym list.history;
                  moments = left.unmade told (stands_unlike h stands);
                  calls = λ tell. over.kept.calls tell ∙ counted.calls tell told (stands_unlike h stands);
                };
            anew = λ told starts. record {
              listed = (over.taken told).entries ∙ ap entries_in (opened.anew told starts);
              moments = making (area_of trail) (left.anew told starts);
              calls = λ tell. over.kept.calls tell ∙ counted.calls_anew tell told starts;
            };
            foreign = λ told at foreign. record {
              place = ⊎_elim (λ (stands : StandsFit fits asked here (firm_entries trail)).
                  let list = in_batches back asked here (firm_entries trail) stands.stands in
                  absurd (stands_or_foreign asked long here Are first list.batches at list.stands (are_fit fits asked here (firm_entries trail) stands.fit list) foreign))
                  (λ anew. absurd (unfit_unlike at foreign anew.0)) (found trail over told);
              moments = left.unmade told (unfit_unlike at foreign);
            };
          };
          size = over.kept.size ∙ same_size;
          planned = λ tell. record {
            unmade = λ told none. sync_on (tells.fate area) (tells.fate (journal.area_of j)) (tells.fate (area_of trail)) false ((planned tell).unmade told none) (over.kept.planned tell) (over.runs tell);
            anew = λ told starts calm runs. record {
              runs = refl;
              after = read_course (tells.fate (journal.area_of j)) (tells.fate (area_of trail)) (over.kept.planned tell) (after_append (after_look tells area)) ((planned tell).anew told starts calm runs).after;
            };
          };
        }
    opens (Err fault) over = record {
      ok = tt;
      follows = λ told. tt;
      err = record {
        place = places;
        cause = λ e. rw counted.cause.faults at (over.cause.device e);
        still = λ other. over.cause.still other ∙ counted.cause.faults;
        faults = rw counted.cause.faults at over.cause.faults_err;
        unwritten = λ told. inr (⊎_elim (λ starts. absurd (over.some told (opened.anew told starts))) (λ same. over.kept.octets ∙ same) (opened.found told));
      };
      gives = refuses fault.0 fault.1 (later (journal.area_of j) fault.1 leaves over.kept) places;
      size = over.kept.size ∙ same_size;
      planned = λ tell. record {
        unmade = λ told none. sync_on (tells.fate area) (tells.fate (journal.area_of j)) (tells.fate fault.1) (is_device_fault fault.0) ((planned tell).unmade told none) (over.kept.planned tell) (over.runs tell);
        anew = λ told starts calm runs. absurd (over.some told (opened.anew told starts));
      };
    }
      where
        places : Told tells → (at : ℕ) → fault.0 ≡ NotOurs at → IsUnfitTo fits asked here at
        places told at is =
            ⊎_elim (λ starts. absurd (over.some told (opened.anew told starts))) (λ (stands : Stands asked here (journal.batches j)).
            inr (spoiled_by asked long here Are first (end_of (journal.batches j)) (journal.batches j) at (stands_before asked long here (journal.batches j) stands) (rw (sized told) (over.breaks told at is)))) (there told)

-- a judge to whom each entry is fit asks nothing more
module _ {A : Type 0} {tells : Ghosts A} (header : List ℕ) (area : A) (fits : ℕ → List HistoryEntry → HistoryEntry → Type 0) (each : (size : ℕ) (before : List HistoryEntry) (e : HistoryEntry) → fits size before e) where
  pub ok_always : (r : Result (Trail A tells) (OpenFault × A)) → IfOk r (λ trail. IsOpened tells header area (StandsFit fits header) trail) → IfOk r (λ trail. IsOpened tells header area (StandsFor header) trail)
  ok_always r ok = search (rules, found)

  pub err_always : (r : Result (Trail A tells) (OpenFault × A)) → IfErr r (λ fault. IsRefused tells area (IsUnfitTo fits header) fault) → IfErr r (λ fault. IsRefused tells area (IsForeignTo header) fault)
  err_always (Ok trail) err = tt
  err_always (Err fault) err = record {
    place = λ told at is. unfit_foreign fits each header (tells.octets area) at (err.place told at is);
    cause = err.cause;
    still = err.still;
    faults = err.faults;
    unwritten = err.unwritten;
  }
