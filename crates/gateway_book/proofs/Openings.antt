-- A book that is opened: what its index follows, and the Start that it adds.
use Rattle.std.proofs.Common.{◌≡◌, ◌⊎◌, ℕ, ◌≤◌, true, false, if◌then◌else◌, max, List, [], ◌∷◌, ◌++◌, length, refl, sym, ap, subst, ◌∙◌, arith, suc, Bool, Ok, Err, rules}
use Rattle.gateway_book.proofs.Names.{AllFit, area_of, Book, book_area, book_fault, BookValue, entry_by, firm_entries, fit_is_within, Ghosts, has_room, history_of, HistoryEntry, IsFit, IsOpened, last_is_in_range, last_moment, MayGrow, moment_after, most_octets, no_caller, opened, recorded, room_for, StandsOrStarts, Start, started, Told, Trail, value_of}
use Rattle.gate_journal.specs.declared.faults.OpenFault.{OpenFault}
use Rattle.gate_journal.specs.declared.faults.OpenFault.TheVariants as opening
use Rattle.cgf_journal.specs.Fit.{StandsFit}
use Rattle.cgf_journal.specs.Results as trails
use Rattle.gateway_book.specs.Begun.{IsBegun}
use Rattle.gateway_book.specs.declared.outcome.BookFault.{BookFault}
use Rattle.gateway_book.specs.declared.outcome.BookFault.TheVariants.{Device, NoMemory, NotOurs}
use Rattle.gateway_book.proofs.JudgeLemmas.{costs_at_least}
use Rattle.area_disk.specs.Armed.{Armed, Came, IsArmed, after_one, calls_under, one_later, planned_in}
use Rattle.area_disk.specs.Armed.Armed.{Nothing}
use Rattle.area_disk.specs.Armed.Came.{Ran}
use Rattle.area_disk.specs.ArmedLaws.{armed_ran, armed_reads}
use Rattle.area_disk.specs.Course.{Course, IsTied, after_sync, after_write, course_of, fate_of_sync, fate_of_write}
use Rattle.area_disk.specs.CourseLaws.{tied_put, tied_sync, tied_synced, tied_write}
use Rattle.area_disk.specs.Plan.{Prospect, is_failure}
use Rattle.area_disk.specs.declared.plan.Fate.{Fate}
use Rattle.area_disk.specs.declared.plan.Fate.TheVariants.{Runs}
use Rattle.gate_journal.specs.Opening.{after_look}
use Rattle.gate_journal.specs.Opening as gates
use Rattle.gate_journal.specs.Planned.{Ending, SyncPlanned, after_append, after_put, append_fails, course_after, course_by, ending_by, ending_of, with_reads}
use Rattle.gate_journal.specs.Planned.Ending.{BothRan}
use Rattle.gate_journal.specs.OpenPlanned.{IsCalm}
use Rattle.cgf_journal.specs.OpenPlan as plans
use Rattle.gateway_book.specs.OpenPlan.{OpensAsPlanned, is_device_fault, is_memory, is_memory_fault}

-- a fit history may grow
pub fit_may_grow : (size : ℕ) (h : List HistoryEntry) → size ≤ most_octets → AllFit size h → MayGrow h
fit_may_grow size h short fit = search (rules, fit_is_within, costs_at_least)

-- a Start for which there is room is fit
pub start_is_fit : (size : ℕ) (h : List HistoryEntry) (e : HistoryEntry) → AllFit size h → e.moment ≡ last_moment h → e.act ≡ Start
    → has_room h e size ≡ true → IsFit size h e
start_is_fit size h e fit moment act room = search (rules, last_is_in_range)

-- ---- the Start

zero_max : (n : ℕ) → n ≡ max 0 n
zero_max n = omega arith

module _ (v : BookValue) (size : ℕ) (e : HistoryEntry) (whole : v.is_broken ≡ false) (moment : e.moment ≡ last_moment (v.firm ++ v.rest)) (caller : e.caller ≡ no_caller) (act : e.act ≡ Start) where
  history : v.firm ++ v.rest ≡ history_of v
  history = sym (ap (λ b. if b then v.firm else v.firm ++ v.rest) whole)

  entry : e ≡ entry_by (history_of v) 0 no_caller Start
  entry = λ i. record { moment = when i; caller = caller i; act = act i }
    where
      when : e.moment ≡ moment_after (history_of v) 0
      when = moment ∙ ap (λ (h : List HistoryEntry). last_moment h) history ∙ zero_max (last_moment (history_of v))

  room : has_room (v.firm ++ v.rest) e size ≡ room_for (history_of v) size Start
  room = λ i. has_room (history i) (entry i) size

  pub start_added : has_room (v.firm ++ v.rest) e size ≡ true → (let w : BookValue = record v { rest = v.rest ++ e ∷ [] } in w) ≡ started size v
  start_added has = grind (arith, entry, room)

  pub start_left_out : has_room (v.firm ++ v.rest) e size ≡ false → v ≡ started size v
  start_left_out none = sym (ap (λ b. if b then recorded v 0 no_caller Start else v) (sym room ∙ none))

-- ---- from the trail's opening to the book's

pub not_ours_is : (fault : OpenFault) (at : ℕ) → book_fault fault ≡ NotOurs at → fault ≡ opening.NotOurs at
not_ours_is fault at e = grind arith

pub device_is : (fault : OpenFault) → book_fault fault ≡ Device → fault ≡ opening.Device
device_is fault e = grind arith

module _ {A : Type 0} {tells : Ghosts A} {t : Trail A tells} {open_time : ℕ} {book : Book A tells} (begun : IsBegun t open_time book) where
  -- what the trail's area is, the book's is
  pub on_area : (P : A → Type 0) → P (area_of t) → P (book_area book)
  on_area P p = subst P (sym begun.area) p

  module _ (area : A) (size : tells.size (area_of t) ≡ tells.size area) where
    pub value_is : (h : List HistoryEntry) → Told tells → firm_entries t ≡ h → value_of book ≡ opened (tells.size area) h
    value_is h told listed = begun.value told ∙ (λ i. opened (size i) (listed i))

    pub ok_is : {header : List ℕ} → trails.IsOpened tells header area (StandsFit IsFit header) t → IsOpened header area open_time book
    ok_is found = search (rules, value_is)

pub foreign_is : {fault : OpenFault} {at : ℕ} {told : BookFault} → told ≡ book_fault fault
    → (fault ≡ opening.NotOurs at) ⊎ ((fault ≡ opening.Device) ⊎ (fault ≡ opening.NoMemory)) → (told ≡ NotOurs at) ⊎ ((told ≡ Device) ⊎ (told ≡ NoMemory))
foreign_is is holds = grind arith

-- what an opening found is fit
pub found_fit : {header octets : List ℕ} {h : List HistoryEntry} {size n : ℕ} → length octets ≡ size → n ≡ size → StandsOrStarts header octets h → AllFit n h
found_fit one two three = search rules

-- ---- what comes of the opening of a book by a plan

-- ---- calls that all run

nothing_comes : (n : ℕ) → calls_under Nothing n ≡ Ran Nothing
nothing_comes n = grind arith

earlier : (came : Came) (b : Armed) → one_later came ≡ Ran b → came ≡ Ran b
earlier came b is = grind arith

-- the first of them runs, and so do the others
ran_first : (a b : Armed) (n : ℕ) → calls_under a (suc n) ≡ Ran b → (planned_in a 0 ≡ Runs) × (calls_under (after_one a) n ≡ Ran b)
ran_first a b n is = grind (arith, nothing_comes, earlier)

ran_none : (a b : Armed) → calls_under a 0 ≡ Ran b → a ≡ b
ran_none a b is = cc

-- a sync that runs
module _ (old : Prospect) (a b : Armed) (armed : IsArmed a old.schedule) (ran : calls_under a 1 ≡ Ran b) where
  sync_runs : fate_of_sync (course_of old) ≡ Runs
  sync_runs = tied_sync a (course_of old) armed ∙ (ran_first a b 0 ran).0

  synced_runs : (failed : Bool) (new : Prospect) → SyncPlanned old failed new → failed ≡ false
  synced_runs failed new planned = planned.runs armed.reads ∙ ap is_failure sync_runs

  synced_tied : (failed : Bool) (new : Prospect) → SyncPlanned old failed new → IsTied b (course_of new)
  synced_tied failed new planned =
      let synced = tied_synced a (course_of old) armed in
      subst (λ (x : Armed). IsTied x (course_of new)) (ran_none (after_one a) b (ran_first a b 0 ran).1)
      (subst (λ (c : Course). IsTied (after_one a) c)
      (sym (planned.course ∙ ap (λ (f : Fate). with_reads new.schedule.reads (after_sync f (course_of old))) sync_runs))
      (record { is_armed = armed_reads (after_one a) (after_sync Runs (course_of old)).schedule new.schedule.reads synced.is_armed; has_spare = synced.has_spare }))

-- a write and a sync that run
module _ (a : Armed) (course : Course) (tied : IsTied a course) (first : planned_in a 0 ≡ Runs) (second : planned_in (after_one a) 0 ≡ Runs) where
  write_runs : fate_of_write course ≡ Runs
  write_runs = tied_write a course tied ∙ first

  then_sync_runs : fate_of_sync (after_write Runs course) ≡ Runs
  then_sync_runs = tied_sync (after_one a) (after_write Runs course) (armed_ran a course.schedule tied.is_armed) ∙ second

  put_ends : ending_of course ≡ BothRan
  put_ends = λ i. ending_by (write_runs i) (then_sync_runs i)

  put_tied : IsTied (after_one (after_one a)) (after_put course)
  put_tied = subst (λ (c : Course). IsTied (after_one (after_one a)) c) (sym (λ i. course_by (write_runs i) (then_sync_runs i) course)) (tied_put a course tied)

-- a sync and two writes with their syncs, all of which run
module _ {A : Type 0} (tells : Ghosts A) (area : A) (a b : Armed) (armed : IsArmed a (tells.fate area).schedule) (ran : calls_under a 5 ≡ Ran b) where
  all_run : (planned_in a 0 ≡ Runs) × (planned_in (after_one a) 0 ≡ Runs) × (planned_in (after_one (after_one a)) 0 ≡ Runs)
      × (planned_in (after_one (after_one (after_one a))) 0 ≡ Runs) × (planned_in (after_one (after_one (after_one (after_one a)))) 0 ≡ Runs)
      × (after_one (after_one (after_one (after_one (after_one a)))) ≡ b)
  all_run = grind (arith, ran_first, ran_none)

  calm : IsCalm (tells.fate area)
  calm = record { reads = armed.reads; runs = ap is_failure (tied_sync a (course_of (tells.fate area)) armed ∙ all_run.0) }

  looked : IsTied (after_one a) (after_look tells area)
  looked = tied_synced a (course_of (tells.fate area)) armed

  framed : IsTied (after_one (after_one (after_one a))) (after_put (after_look tells area))
  framed = put_tied (after_one a) (after_look tells area) looked all_run.1 all_run.2

  frame_ends : ending_of (after_look tells area) ≡ BothRan
  frame_ends = put_ends (after_one a) (after_look tells area) looked all_run.1 all_run.2

  gate_ends : ending_of (after_put (after_look tells area)) ≡ BothRan
  gate_ends = put_ends (after_one (after_one (after_one a))) (after_put (after_look tells area)) framed all_run.3 all_run.4

  making_runs : append_fails (ending_of (after_look tells area)) (ending_of (after_put (after_look tells area))) ≡ false
  making_runs = λ i. append_fails (frame_ends i) (gate_ends i)

  made_tied : IsTied b (after_append (after_look tells area))
  made_tied =
      let looking = after_look tells area in
      let gated = put_tied (after_one (after_one (after_one a))) (after_put looking) framed all_run.3 all_run.4 in
      subst (λ (x : Armed). IsTied x (after_append looking)) all_run.5
      (subst (λ (c : Course). IsTied (after_one (after_one (after_one (after_one (after_one a))))) c)
      (sym (ap (λ (e : Ending). course_after e (after_put looking) (after_put (after_put looking))) frame_ends)) gated)

  -- and reads
  read_tied : (now : Prospect) → course_of now ≡ with_reads now.schedule.reads (after_append (after_look tells area)) → IsTied b (course_of now)
  read_tied now is = subst (λ (c : Course). IsTied b c) (sym is)
      (record { is_armed = armed_reads b (after_append (after_look tells area)).schedule now.schedule.reads made_tied.is_armed; has_spare = made_tied.has_spare })

-- ---- from the trail's opening to the book's

memory_is : (fault : OpenFault) → is_memory_fault (book_fault fault) ≡ plans.is_memory_fault fault
memory_is fault = grind arith

device_fault_is : (fault : OpenFault) → is_device_fault (book_fault fault) ≡ gates.is_device_fault fault
device_fault_is fault = grind arith

module _ {A : Type 0} {tells : Ghosts A} (header : List ℕ) (area : A) where
  -- where the trail was opened
  pub opened_as_planned : (t : Trail A tells) (open_time : ℕ) (book : Book A tells) → IsBegun t open_time book → plans.OpenFollows tells area (Ok t) header → OpensAsPlanned area (Ok book) header
  opened_as_planned t open_time book begun follows = record {
    unmade = λ told unmade. subst (λ (x : A). SyncPlanned (tells.fate area) false (tells.fate x)) (sym begun.area) (follows.unmade told unmade);
    found = λ told unmade a b armed ran. record {
      runs = refl;
      tied = subst (λ (x : A). IsTied b (course_of (tells.fate x))) (sym begun.area) (synced_tied (tells.fate area) a b armed ran false (tells.fate (area_of t)) (follows.unmade told unmade));
    };
    anew = λ told starts a b armed ran. record {
      runs = refl;
      tied = subst (λ (x : A). IsTied b (course_of (tells.fate x))) (sym begun.area)
          (read_tied tells area a b armed ran (tells.fate (area_of t)) (follows.anew told starts (calm tells area a b armed ran) (making_runs tells area a b armed ran)).after);
    };
  }

  -- and where it wasn't
  pub refused_as_planned : (fault : OpenFault) (now : A) (told : BookFault) → told ≡ book_fault fault → is_memory {T = Book A tells} (Err (told, now)) ≡ false
      → (plans.is_memory {T = Trail A tells} (Err (fault, now)) ≡ false → plans.OpenFollows tells area (Err (fault, now)) header) → OpensAsPlanned {tells = tells} area (Err (told, now)) header
  refused_as_planned fault now kind is some follows =
      let known = follows (sym (memory_is fault) ∙ sym (ap is_memory_fault is) ∙ some) in
      let device : is_device_fault kind ≡ gates.is_device_fault fault = ap is_device_fault is ∙ device_fault_is fault in
      record {
        unmade = λ told unmade. subst (λ (failed : Bool). SyncPlanned (tells.fate area) failed (tells.fate now)) (sym device) (known.unmade told unmade);
        found = λ told unmade a b armed ran. record {
          runs = device ∙ synced_runs (tells.fate area) a b armed ran (gates.is_device_fault fault) (tells.fate now) (known.unmade told unmade);
          tied = tt;
        };
        anew = λ told starts a b armed ran. record {
          runs = device ∙ (known.anew told starts (calm tells area a b armed ran) (making_runs tells area a b armed ran)).runs;
          tied = tt;
        };
      }
