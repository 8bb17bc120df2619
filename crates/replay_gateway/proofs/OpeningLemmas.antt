-- A gateway's area: how it is armed, stopped, handed out and opened.
use Rattle.std.proofs.Common.{◌⊎◌, ◌≡◌, ◌∙◌, ap, ℕ, ◌+◌, ◌<◌, Bool, false, ◌&&◌, if◌then◌else◌, List, [], ◌∷◌, ◌++◌, Option, None, Some, MatchOption, take, arith, inl, refl, sym, ◌≤◌, true, slice_index, Result, Ok, Err, append-nil}
use Rattle.std.proofs.Math.Bool.{and-false}
use Rattle.replay_gateway.proofs.Names.{after_commit, along, area_of, area_tells, AreOpenFiles, AreSealed, Armed, armed, ArmsAs, asked_to_commit, begun_gateway, Book, BookStands, BookValue, committed, Down, Fail, files_in, FindsHistory, first_gateway, first_machine, fortune_by, Gateway, gateway_address, get_or-replicate, GoesOn, header_at, history_of, HistoryEntry, HoldsHistory, is_device, is_memory_fault, IsAreaOf, IsArmed, IsHandedOut, IsMadeAnew, IsNotOurs, IsOpened, IsOpenedForCounts, IsRefused, IsUp, items_by, items_of, LeavesFit, left_by_stop, Machine, MachineStands, MemoryArea, MemoryShelf, New, no_caller, Nothing, Old, opened, OpensAsPlanned, plan_of, recorded, room_for, rules_in, Schedule, schedule_of, sequel_of, sequel_on, Setup, shelf_tells, Site, SiteIsOpened, SiteStands, size_of, standing_for, StandsDown, StandsFitFor, StandsUp, Start, Stays, Stop, stop_stands, Up, value_of}
use Rattle.area_disk.specs.Disk.{last_count, zeros}
use Rattle.area_disk.specs.Memory.{IsKept, IsLeft}
use Rattle.area_disk.specs.declared.plan.Outcome3.{Outcome3}
use Rattle.area_disk.specs.declared.plan.Plan.{Plan}
use Rattle.once_core.specs.Gateway.{opened as reopened}
use Rattle.area_disk.specs.Course.{IsTied}
use Rattle.gate_journal.specs.Format.{Starts, header}
use Rattle.gateway_book.specs.declared.outcome.BookFault.{BookFault}
use Rattle.gateway_book.specs.declared.outcome.BookFault.TheVariants.{Device, NotOurs}
use Rattle.replay_gateway.specs.declared.machine.Machine as real
use Rattle.replay_gateway.proofs.CallLemmas.{WrittenStays}

-- The area of a gateway that is down.

-- The plan of one that is up.

-- what a plan arms
pub arms_armed : (a : Armed) (plan : Plan) (s : Schedule) →
    ((plan : Plan) (s : Schedule) → s.stopped ≡ false → plan.read_fail.items ≡ [] → plan.fail.items ≡ [] →
    plan.stop ≡ None → IsArmed Nothing (armed plan s)) →
    ((plan : Plan) (s : Schedule) → s.stopped ≡ false → plan.read_fail.items ≡ [] → (k : ℕ) → k < last_count →
    plan.fail.items ≡ (k + 1) ∷ [] → plan.stop ≡ None → IsArmed (Fail k) (armed plan s)) →
    ((plan : Plan) (s : Schedule) → s.stopped ≡ false → plan.read_fail.items ≡ [] → (k : ℕ) (outcome : Outcome3) →
    k < last_count → plan.fail.items ≡ [] → plan.stop ≡ Some (record { call = k + 1; outcome = outcome }) →
    IsArmed (Stop k outcome) (armed plan s)) →
    s.stopped ≡ false → ArmsAs a plan → IsArmed a (armed plan s)
arms_armed Nothing plan s nothing fails stops running arms = nothing plan s running arms.reads arms.call.0 arms.call.1
arms_armed (Fail k) plan s nothing fails stops running arms =
    fails plan s running arms.reads k arms.call.0 arms.call.1 arms.call.2
arms_armed (Stop k outcome) plan s nothing fails stops running arms =
    stops plan s running arms.reads k outcome arms.call.0 arms.call.1 arms.call.2

-- a book whose area was armed
pub up_as_armed : {header : List ℕ} {v : BookValue} {a : Armed} (b : Armed) {at_last : Bool} (plan : Plan)
    {old new : Book MemoryArea area_tells} → ((s : Schedule) → s.stopped ≡ false → IsArmed b (armed plan s)) →
    IsUp header v a at_last old → value_of new ≡ value_of old → Stays old new →
    (area_tells.fate (area_of new)).schedule ≡ armed plan (area_tells.fate (area_of old)).schedule →
    IsKept (area_of old) (area_of new) →
    ((outcome : Outcome3) → stop_stands outcome new.trail ≡ stop_stands outcome old.trail) → IsUp header v b at_last new
up_as_armed b plan {old} arms up same stays planned kept stop = record {
  value = same ∙ up.value;
  named = stays.header ∙ up.named;
  is_armed = rw planned (arms (area_tells.fate (area_of old)).schedule up.is_armed.running);
  has_spare = λ whole. rw kept.disk (up.has_spare whole);
  torn = λ breaks outcome. stop outcome ∙ up.torn breaks outcome;
}

pub stopped_area : (setup : Setup) (place : ℕ) (v : BookValue) (at_last : Bool) {old new : _} →
    StandsFitFor (header_at setup place) ((area_tells.fate old).leaves Old)
    (if v.is_broken && (at_last && false) then v.firm ++ v.rest else v.firm) →
    IsLeft old Old new → HoldsHistory area_tells (header_at setup place) v.firm new
stopped_area setup place v at_last stands left = record {
  stands = rw left.present (rw (ap (λ c. v.is_broken && c) (and-false at_last) ∙ and-false v.is_broken) at stands);
}

-- what the area of one that is up holds, which is handed out as it is
pub left_kept : (b : Bool) {w v : BookValue} → w ≡ v →
    ((if b then w.firm ++ w.rest else w.firm) ≡ v.firm) ⊎ ((if b then w.firm ++ w.rest else w.firm) ≡ v.firm ++ v.rest)
left_kept b is = grind arith

-- what a gateway hands out, whose area this is
pub handed_out : (setup : Setup) (place : ℕ) (g : Gateway) (m : Machine) (o : Option MemoryArea) (s : MemoryShelf) →
    MatchOption o ⊥ (IsAreaOf setup place g) →
    AreSealed (files_in setup place) (items_of g.book.firm) m.filing.sealed (shelf_tells.files s) →
    ((n : ℕ) → m.filing.taken ≡ Some n →
    AreOpenFiles (files_in setup place) (λ s. 0) (take n (items_of g.book.firm)) (shelf_tells.unsealed s)) →
    MatchOption o ⊥ (λ area. IsHandedOut setup place g m area s)
handed_out setup place g m None s none files unsealed = none
handed_out setup place g m (Some area) s is files unsealed = record { area = is; files = files; unsealed = unsealed }

-- A gateway that is opened on an empty area.

-- what an empty plan arms
abbrev pub ArmsNothing : Type 0
ArmsNothing = (plan : Plan) (s : Schedule) → s.stopped ≡ false → plan.read_fail.items ≡ [] → plan.fail.items ≡ [] →
    plan.stop ≡ None → IsArmed Nothing (armed plan s)

-- a book that was opened is up
abbrev pub OpenedIsUp : Type 0
OpenedIsUp = (header : List ℕ) (area : MemoryArea) (open_time : ℕ) (book : Book MemoryArea area_tells) (w : BookValue)
    (armed : Armed) → IsOpened header area open_time book → value_of book ≡ w → IsTied armed (plan_of book) →
    (w.is_broken ≡ false) × IsUp header w armed false book

first_zero : (n : ℕ) → 1 ≤ n → slice_index (zeros n) 0 ≡ 0
unfolding zeros
first_zero n le = get_or-replicate n 0 0 0 (omega arith)

-- an opening that was refused
abbrev pub refused_with : BookFault → MemoryArea → Result (Book MemoryArea area_tells) (BookFault × MemoryArea)
refused_with fault left = Err (fault, left)

-- what is another's doesn't start
abbrev pub ForeignAndStarts : Type 0
ForeignAndStarts = (size address : ℕ) (octets : List ℕ) (at : ℕ) → IsNotOurs (header size address 0) octets at →
    Starts (header size address 0) octets → ⊥

-- A new area.
module _ (address size : ℕ) (area : MemoryArea) (plan : Plan) where
  -- it starts, and nothing is armed
  pub begun_starts : 100 ≤ size → area_tells.octets area ≡ zeros size → Starts (header (area_tells.size area) address 0) (area_tells.octets area)
  begun_starts long octets = inl (cc (first_zero size (omega arith)))

  pub begun_armed : (area_tells.fate area).schedule ≡ schedule_of plan → ArmsNothing → plan.read_fail.items ≡ [] →
      plan.fail.items ≡ [] → plan.stop ≡ None → IsArmed Nothing (area_tells.fate area).schedule
  begun_armed planned nothing reads fails stops = rw planned (nothing plan (schedule_of plan) refl reads fails stops)

  -- so the device doesn't refuse it, and it isn't another's
  pub begun_runs : {fault : _} (left : MemoryArea) → 100 ≤ size → area_tells.octets area ≡ zeros size →
      IsArmed Nothing (area_tells.fate area).schedule →
      OpensAsPlanned area (refused_with fault left) (header (area_tells.size area) address 0) → fault ≡ Device → ⊥
  begun_runs left long octets is_armed plans is =
      cc ((plans.anew (refl, refl) (begun_starts long octets) Nothing Nothing is_armed refl).runs)

  pub begun_ours : {fault left at : _} → 100 ≤ size → area_tells.octets area ≡ zeros size → ForeignAndStarts →
      IsRefused area_tells area (header (area_tells.size area) address 0) (fault, left) → fault ≡ NotOurs at → ⊥
  begun_ours {at} long octets others refused is =
      others (area_tells.size area) address (area_tells.octets area) at (refused.place (refl, refl) at is)
      (begun_starts long octets)

module _ (s : Setup) (place address size open_time : ℕ) (area : MemoryArea) (plan : Plan)
    (book : Book MemoryArea area_tells) where
  abbrev front : List ℕ
  front = header (area_tells.size area) address 0

  pub begun_stands : address ≡ (gateway_address place).ip → open_time ≡ s.limits.open_time → size ≡ s.size →
      100 ≤ size → area_tells.size area ≡ size → area_tells.octets area ≡ zeros size →
      (area_tells.fate area).schedule ≡ schedule_of plan → ArmsNothing → plan.read_fail.items ≡ [] →
      plan.fail.items ≡ [] → plan.stop ≡ None → OpenedIsUp → IsOpened front area open_time book →
      (Starts front (area_tells.octets area) → IsMadeAnew area (Ok book) front) → OpensAsPlanned area (Ok book) front →
      size_of book ≡ area_tells.size area → StandsUp s place (begun_gateway s) first_machine book
  begun_stands address_is open_time_is size_is long area_is octets planned nothing reads fails stops law is_opened
      anew plans kept =
      let starts = begun_starts address _ area plan long octets in
      let same_size : area_tells.size area ≡ s.size = area_is ∙ size_is in
      let tied : IsTied Nothing (plan_of book) =
      (plans.anew (refl, refl) starts Nothing Nothing
      (begun_armed address size area plan planned nothing reads fails stops) refl).tied in
      let up : IsUp front (opened s.size []) Nothing false book =
      (law front area open_time book (opened s.size []) Nothing is_opened (cc ((anew starts).value)) tied).1 in
      record {
        runs = refl;
        up = rw (ap (λ n. header n address 0) same_size ∙ ap (λ a. header s.size a 0) address_is) at up;
        size = kept ∙ same_size;
        open_time = is_opened.set ∙ open_time_is;
      }

-- Its Start is made firm.

firm_is : (b : Bool) →
    (let w = if b then recorded (standing_for []) 0 no_caller Start else standing_for [] in
    (after_commit (fortune_by false (sequel_of (asked_to_commit w) Nothing false)) w ≡ committed w)
    × (sequel_of (asked_to_commit w) Nothing false ≡ GoesOn Nothing))
firm_is true = (refl, refl)
firm_is false = (refl, refl)

pub firm_stands : (s : Setup) (place : ℕ) (book : Book MemoryArea area_tells) →
    (let q = sequel_on first_machine (asked_to_commit (begun_gateway s).book) in
    BookStands s place (after_commit (fortune_by false q) (begun_gateway s).book) q book) →
    StandsUp s place (first_gateway (rules_in s)) first_machine book
firm_stands s place book stands =
    let is = firm_is (room_for [] s.size Start) in
    let up = rw is.1 at (rw is.0 at stands) in
    record { runs = refl; up = up.stands.1; size = up.size; open_time = up.open_time }

-- A gateway that was down is opened again.

-- where it isn't refused by the device or as another's it is refused for want of memory
not_memory : (fault : BookFault) (left area : MemoryArea) (first : List ℕ) → ((at : ℕ) → fault ≡ NotOurs at → ⊥) →
    is_device (refused_with fault left) ≡ false → is_memory_fault fault ≡ false → ⊥
not_memory fault left area first ours runs other = grind arith

-- what stands for a history isn't another's
abbrev pub StandsAndForeign : Type 0
StandsAndForeign = (size address : ℕ) (octets : List ℕ) (h : List HistoryEntry) (at : ℕ) →
    StandsFitFor (header size address 0) octets h → IsNotOurs (header size address 0) octets at → ⊥

-- what stands for a history doesn't start
abbrev pub StandsAndStarts : Type 0
StandsAndStarts = (size address : ℕ) (octets : List ℕ) (h : List HistoryEntry) →
    StandsFitFor (header size address 0) octets h → Starts (header size address 0) octets → ⊥

module _ (setup : Setup) (place : ℕ) (g : Gateway) (m : Machine) where
  abbrev again : Gateway
  again = reopened (rules_in setup) g

  abbrev h : List HistoryEntry
  h = history_of g.book

  pub opened_up : {address open_time : ℕ} {area : MemoryArea} {book : Book MemoryArea area_tells} →
      StandsDown setup place g m area_tells area → address ≡ (gateway_address place).ip →
      open_time ≡ setup.limits.open_time → StandsAndStarts → OpenedIsUp →
      IsOpened (header (area_tells.size area) address 0) area open_time book →
      (StandsFitFor (header (area_tells.size area) address 0) (area_tells.octets area) h → FindsHistory area (Ok book) h) →
      OpensAsPlanned area (Ok book) (header (area_tells.size area) address 0) → size_of book ≡ area_tells.size area →
      StandsUp setup place again first_machine book
  opened_up {address} {open_time} {area} {book} stands address_is open_time_is apart law is_opened finds plans kept =
      let first = header (area_tells.size area) address 0 in
      let first_is : first ≡ header_at setup place = cc stands.size in
      let fit = rw (← first_is) at stands.down.stands in
      let tied : IsTied Nothing (plan_of book) =
      (plans.found (refl, refl) (apart (area_tells.size area) address (area_tells.octets area) h fit) Nothing Nothing
      stands.is_armed refl).tied in
      record {
        runs = refl;
        up = rw first_is at
            (law first area open_time book again.book Nothing is_opened (cc ((finds fit).value, stands.size)) tied).1;
        size = kept ∙ stands.size;
        open_time = is_opened.set ∙ open_time_is;
      }

  -- It is ours, and nothing is armed that would fail.
  pub never_refused : {address area fault left : _} → StandsDown setup place g m area_tells area →
      address ≡ (gateway_address place).ip → StandsAndStarts → StandsAndForeign →
      IsRefused area_tells area (header (area_tells.size area) address 0) (fault, left) →
      (is_memory_fault fault ≡ false → OpensAsPlanned area (refused_with fault left)
      (header (area_tells.size area) address 0)) →
      is_memory_fault fault ≡ false → ⊥
  never_refused {address} {area} {left} stands address_is apart ours refused plans other =
      let first = header (area_tells.size area) address 0 in
      let first_is : first ≡ header_at setup place = cc stands.size in
      let fit = rw (← first_is) at stands.down.stands in
      not_memory _ left area first
      (λ at is. ours (area_tells.size area) address (area_tells.octets area) h at fit
      (refused.place (refl, refl) at is))
      ((plans other).found (refl, refl) (apart (area_tells.size area) address (area_tells.octets area) h fit) Nothing
      Nothing stands.is_armed refl).runs other

  -- Its book has the history, all of it firm, and isn't broken.

  pub firm_again : again.book.firm ≡ h
  firm_again = grind arith

  pub whole_again : again.book.is_broken ≡ false
  whole_again = grind arith

  -- What was armed is armed still: nothing.
  armed_up : {book : Book MemoryArea area_tells} → m.armed ≡ Nothing → StandsUp setup place again first_machine book →
      StandsUp setup place again m book
  armed_up unarmed stands = record {
    runs = stands.runs;
    up = record {
      value = stands.up.value;
      named = stands.up.named;
      is_armed = rw unarmed stands.up.is_armed;
      has_spare = stands.up.has_spare;
      torn = λ breaks outcome. cc whole_again;
    };
    size = stands.size;
    open_time = stands.open_time;
  }

  site_again : (s : Option Site) → m.armed ≡ Nothing → SiteIsOpened setup place g s → SiteStands setup place again m s
  site_again (Some (Up book)) unarmed is_opened = armed_up unarmed is_opened
  site_again _ unarmed is_opened = absurd is_opened

  -- what a site tells that is down
  pub down_tells : (s : Option Site) → g.is_down ≡ true → SiteStands setup place g m s →
      ((m.armed ≡ Nothing) × (m.filing.armed ≡ Nothing)) × (g.waiting ≡ [])
  down_tells (Some (Down fallen)) down stands = (stands.unarmed, stands.silent)
  down_tells (Some (Up book)) down stands = absurd (cc stands.runs)
  down_tells None down stands = absurd stands

  history_more : (b : Bool) → (more : List HistoryEntry)
      × ((if b then g.book.firm else g.book.firm ++ g.book.rest) ≡ g.book.firm ++ more)
  history_more true = ([], sym (append-nil g.book.firm))
  history_more false = (g.book.rest, refl)

  pub opened_machine :
      ((firm more : List HistoryEntry) → items_of (firm ++ more) ≡ items_of firm ++ along items_by firm more) →
      WrittenStays → {old mid : _} → MachineStands setup place g m old → g.is_down ≡ true →
      IsOpenedForCounts setup place g old mid → MachineStands setup place again m (record mid { redirects = 0 })
  opened_machine items_more stay {old} stands down is_opened =
      let tells = down_tells _ down stands.site in
      let grown = history_more g.book.is_broken in
      let more = grown.0 in
      record {
        site = site_again _ tells.0.0 is_opened.site;
        waiting = cc (is_opened.rest, stands.waiting, tells.1);
        unreached = λ k d h. absurd (omega arith);
        redirects = refl;
        named = cc (is_opened.rest, stands.named);
        writes = rw is_opened.rest
            (rw (ap items_of (firm_again ∙ grown.1) ∙ items_more g.book.firm more)
            (stay (files_in setup place) m.filing (items_of g.book.firm) (along items_by g.book.firm more) old.files
            stands.writes));
      }

  -- It is closed again, with nothing but what is firm.

  left_by : (b stands : Bool) (w : BookValue) → b ≡ false →
      (if b && stands then w.firm ++ w.rest else w.firm) ≡ w.firm
  left_by true stands w is = absurd (cc)
  left_by false stands w is = refl

  pub closed_down : {book : Book MemoryArea area_tells} {area : MemoryArea} (s : Option Site) → g.is_down ≡ true →
      SiteStands setup place g m s → StandsUp setup place again first_machine book → LeavesFit book →
      area ≡ area_of book → StandsDown setup place g m area_tells area
  closed_down {book} s down stands up leaves is =
      let tells = down_tells s down stands in
      let left : left_by_stop New book ≡ h =
      left_by (value_of book).is_broken (stop_stands New book.trail) (value_of book) (cc (up.up.value, whole_again))
      ∙ ap (λ (w : BookValue). w.firm) up.up.value ∙ firm_again in
      record {
        stopped = down;
        down = record { stands = rw is (rw up.up.named at (rw left at (leaves.reads refl (refl, refl)))) };
        is_armed = rw is up.up.is_armed;
        unarmed = tells.0;
        silent = tells.1;
        size = cc up.size;
      }

-- the site was set, and set again
pub site_later : (before : real.Machine) {mid : _} (new : real.Machine) → mid ≡ record before { site = mid.site } →
    new ≡ record mid { site = new.site } → new ≡ record before { site = new.site }
site_later before new first later = cc
