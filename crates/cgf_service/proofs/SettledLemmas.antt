-- How a gateway that was to serve ends: it wasn't opened, or it was settled.
use Rattle.std.proofs.Common.{◌≡◌, ◌⊎◌, ⊎_elim, inl, inr, ℕ, ◌≤◌, true, false, List, [], ◌++◌, Result, Ok, Err, IfErr, IfOk, OnOk, refl, sym, ap, subst, ◌∙◌, arith}
use Rattle.cgf_service.proofs.Names.{area_of, AreaLaws, AreShut, Begins, Book, BookFault, BookValue, files_at, FindsHistory, GoesOnIn, HasFirstFiles, HasLine, HasNoLine, HasServed, HasServedAt, HasSettledAll, header_at, header_of, HistoryEntry, HoldsHistory, is_broken, is_close_due, IsFiledIn, IsMadeAnew, IsNotOurs, IsOpened, IsRefused, IsSettled, IsTrue, items_of, KeepsShelf, LeavesClosed, LeavesFit, LinksState, LosesNothing, moment_of, NeverFalls, no_caller, RefusesAsForeign, Rose, served_line, Service, Serving, settings_in, SettlesStill, Setup, shelf_of, StandsFitFor, StandsFor, StandsOrStarts, Starts, Status, status_by, StopsServing, TakesAllTurns, Told, value_of, Writer}
use Rattle.area_disk.specs.declared.area.Area as areas
use Rattle.cdr_shelf.specs.declared.shelf.Shelf as shelves
use Rattle.gateway_book.specs.declared.outcome.BookFault.TheVariants as of_book
use Rattle.cgf_jobs.specs.declared.status.Status.TheVariants as status
use Rattle.cgf_jobs.specs.declared.status.StoreFault.TheVariants as fault
use Rattle.cgf_service.proofs.GrownLemmas.{opened_is_fresh}
use Rattle.cgf_service.proofs.KeptLemmas.{filed_still, goes_on_unsent, replies_rest, told_lists}
use Rattle.cgf_service.proofs.ServedLemmas.{FilesGrow, ItemsStay, firm_begins, first_holds, first_of_all, has_served, items_begin, leaves_closed}
use Rattle.cgf_service.proofs.ServiceLemmas.{ReplyLater, StaysInTurn, begins_self, begins_then}

-- ---- it wasn't opened

module _ {A F : Type 0} (tells : areas.Ghosts A) (files : shelves.Ghosts F) (of : Serving) (area : A) (shelf : F)
    (links : LinksState) (clock : ℕ) where
  pub unopened_stops : (why : BookFault) (area' : A) (ended : Status) → ended ≡ status_by why → IsRefused tells area (header_at tells area of.ip) (why, area')
      → StopsServing tells files of area area' shelf shelf links links clock clock ended
  unopened_stops why area' ended is refused = rw is (by_fault why refused)
    where
      by_fault : (w : BookFault) → IsRefused tells area (header_at tells area of.ip) (w, area')
          → StopsServing tells files of area area' shelf shelf links links clock clock (status_by w)
      by_fault of_book.Device refused = ((refl, refl), inl (refused.cause refl))
      by_fault (of_book.NotOurs at) refused = (
        record { made = λ a is. is; turns = λ a. refl; received = λ a. refl; sent = λ a. refl },
        (refl, refl),
        refl,
        λ told. (refused.place told at refl, refused.unwritten told (λ is. cc is)),
      )
      by_fault of_book.NoMemory refused = tt

  -- it doesn't end as `Link`
  pub not_link : {X : Type 0} (why : BookFault) (ended : Status) → ended ≡ status_by why
      → ◌≡◌ {A = Result X Status} (Err ended) (Err status.Link) → ⊥
  not_link why ended is link = by_fault why (cc (is, link))
    where
      by_fault : (w : BookFault) → status_by w ≡ status.Link → ⊥
      by_fault of_book.Device e = cc e
      by_fault (of_book.NotOurs at) e = cc e
      by_fault of_book.NoMemory e = cc e

  abbrev Reads : BookFault → A → Type 0
  Reads why area' = Told tells → (h : List HistoryEntry)
      → StandsFitFor (header_at tells area of.ip) (tells.octets area) h
      → FindsHistory {tells = tells} area (Err (why, area')) h

  abbrev Anew : BookFault → A → Type 0
  Anew why area' = Told tells → Starts (header_at tells area of.ip) (tells.octets area)
      → IsMadeAnew {tells = tells} area (Err (why, area')) (header_at tells area of.ip)

  -- what a crash leaves of an area whose opening failed stands as it did, or starts, where it was to be made anew
  unopened_left : (why : BookFault) (area' : A) → Reads why area' → Anew why area' → Told tells
      → (start : List HistoryEntry) → HoldsHistory tells (header_at tells area of.ip) area start
      → (c : List ℕ) → tells.may_leave area' c → StandsOrStarts (header_at tells area of.ip) c start
  unopened_left why area' reads anew told start holds c may = left holds.now
    where
      left : StandsOrStarts (header_at tells area of.ip) (tells.octets area) start → StandsOrStarts
          (header_at tells area of.ip) c start
      left (inl stands) = holds.crash c ((reads told start stands).moments.now c may)
      left (inr starts) = ⊎_elim
          (λ (old : tells.may_leave area c). holds.crash c old)
          (λ (made : Starts (header_at tells area of.ip) c ⊎ StandsFor (header_at tells area of.ip) c []). ⊎_elim
          (λ (s : Starts (header_at tells area of.ip) c). inr (s, starts.1))
          (λ (s : StandsFor (header_at tells area of.ip) c []). inl (rw starts.1 (record { stands = s; fit = tt })))
          made)
          ((anew told starts.0).moments.now c may)

  pub unopened_keeps : (why : BookFault) (area' : A) → AreaLaws tells → Reads why area' → Anew why area'
      → LosesNothing tells of area area' links links
  unopened_keeps why area' laws reads anew told start holds = record {
    now = goes_on (tells.octets area') (laws.holds area');
    crash = goes_on;
  }
    where
      goes_on : (c : List ℕ) → tells.may_leave area' c → GoesOnIn tells of area area' links links start c
      goes_on c may = goes_on_unsent tells of area area' links start c
          (unopened_left why area' reads anew told start holds c may)

  pub unopened_shelf : (why : BookFault) (area' : A) (setup : Setup) → AreaLaws tells → Reads why area' → Anew why area'
      → KeepsShelf tells files of setup area area' shelf shelf
  unopened_shelf why area' setup laws reads anew told tells_files start holds first = (
    filed (tells.octets area') (laws.holds area'),
    filed,
  )
    where
      filed : (c : List ℕ) → tells.may_leave area' c → IsFiledIn tells files of setup area shelf start c
      filed c may = filed_still tells files of setup area shelf shelf refl start first c
          (unopened_left why area' reads anew told start holds c may)

-- ---- it was settled

module _ {A F : Type 0} (tells : areas.Ghosts A) (files : shelves.Ghosts F) (of : Serving) (area : A) (shelf : F)
    (book book' book'' : Book A tells) (writer writer' writer'' : Writer F files)
    (links links' : LinksState) (clock clock' : ℕ) (service : Service) (open_time : ℕ)
    {X : Type 0} (octets : X → List ℕ) (result : Result X Status)
    (sized : tells.size (area_of book) ≡ tells.size area) (opens : IsOpened (header_at tells area of.ip) area open_time book)
    (on : shelf_of writer ≡ shelf) (serves : HasServedAt tells files of book book' writer writer' links links' clock clock' service)
    (settles : HasSettledAll tells files octets service book' book'' writer' writer'' result) where
  device : tells.faults area ≤ tells.faults (area_of book')
  device = omega (arith, opens.faults, serves.stays.later)

  shelf_up : files.faults shelf ≤ files.faults (shelf_of writer')
  shelf_up = rw on at serves.kept.later

  pub settled_stays : NeverFalls tells files of area (area_of book'') shelf (shelf_of writer'') links links' clock clock'
  settled_stays = record {
    device = omega (arith, device, settles.later.0);
    shelf_too = omega (arith, shelf_up, settles.later.1);
    link = serves.later.0;
    time = serves.later.1;
    size = settles.stays.0.size ∙ serves.stays.size ∙ sized;
    uses = serves.uses;
  }

  stops : (ended : Status) → HasNoLine tells files service book' book'' writer' writer'' ended
      → StopsServing tells files of area (area_of book'') shelf (shelf_of writer'') links links' clock clock' ended
  stops status.Link none = ⊎_elim (λ is. inl (serves.link is)) (λ is. inr (serves.time is)) none
  stops (status.Store fault.Device) none = (
    (serves.link_stood none.0, serves.time_stood none.0),
    ⊎_elim
        (λ (r : Rose (tells.faults (area_of book')) (tells.faults (area_of book''))). inl (omega (arith, device, r)))
        (λ (r : Rose (files.faults (shelf_of writer')) (files.faults (shelf_of writer''))). inr
        (omega (arith, shelf_up, r))) none.1,
  )
  stops status.Memory none = tt
  stops _ none = absurd none

  by_err : (r : Result X Status) → IfErr r (HasNoLine tells files service book' book'' writer' writer'')
      → IfErr r (StopsServing tells files of area (area_of book'') shelf (shelf_of writer'') links links' clock clock')
  by_err (Ok x) none = tt
  by_err (Err ended) none = stops ended none

  pub settled_stops : IfErr result (StopsServing tells files of area (area_of book'') shelf (shelf_of writer'') links links' clock clock')
  settled_stops = by_err result settles.err

  took_all : (r : Result X Status) → IfOk r (λ x. HasLine tells files service book' book'' writer'' (octets x))
      → OnOk r (TakesAllTurns of links links' clock clock')
  took_all (Ok x) has = record {
    turns = serves.turns has.runs;
    link = serves.link_stood has.runs;
    time = serves.time_stood has.runs;
  }
  took_all (Err ended) has = tt

  -- a gateway that has a line took all its turns
  pub turns_as : OnOk result (TakesAllTurns of links links' clock clock')
  turns_as = took_all result settles.ok

  -- of the area and the shelf as they were handed back
  pub stops_as : (area'' : A) (shelf'' : F) → area'' ≡ area_of book'' → shelf'' ≡ shelf_of writer''
      → IfErr result (StopsServing tells files of area area'' shelf shelf'' links links' clock clock')
  stops_as area'' shelf'' is_area is_shelf = rw (is_area, is_shelf) settled_stops

  -- an area that was opened isn't another's
  pub settled_foreign : ((octets : List ℕ) (h : List HistoryEntry) (at : ℕ) → StandsFitFor (header_at tells area of.ip) octets h
      → ¬ (IsNotOurs (header_at tells area of.ip) octets at))
      → ((octets : List ℕ) (at : ℕ) → IsNotOurs (header_at tells area of.ip) octets at → ¬ (Starts (header_at tells area of.ip) octets))
      → Told tells → RefusesAsForeign tells of area result
  settled_foreign ours others told at foreign = ⊎_elim
      (λ (s : StandsFitFor (header_at tells area of.ip) (tells.octets area) (opens.found told).0). absurd (ours (tells.octets area) (opens.found told).0 at s foreign))
      (λ s. absurd (others (tells.octets area) at foreign s.0)) (opens.found told).1

  module _ (laws : AreaLaws tells) (shuts : (h : List HistoryEntry) → is_close_due h ≡ false → AreShut (items_of h))
      (in_turn : StaysInTurn) (later_reply : ReplyLater) (leaves : LeavesFit book'') where
    closes : Told tells → IsSettled book' book'' (moment_of service.last) no_caller
        → LeavesClosed tells of area (area_of book'') links links' (value_of book'').firm
    closes told settled = leaves_closed tells files of told laws shuts in_turn later_reply area book book' book''
        writer writer' links links' clock clock'
        service open_time sized opens serves settles.stays.0 settles.later.0 settled leaves

    begins : Told tells → IsSettled book' book'' (moment_of service.last) no_caller → Begins (value_of book').firm
        (value_of book'').firm
    begins told settled = firm_begins tells files of told laws shuts in_turn later_reply area book book' book'' writer
        writer' links links' clock clock'
        service open_time sized opens serves settles.stays.0 settles.later.0 settled leaves

    -- it was, whatever stopped the service, where the device of the area didn't fail
    pub still_settled : (¬ (Rose (tells.faults (area_of book')) (tells.faults (area_of book''))) → IsSettled book'
        book'' (moment_of service.last) no_caller)
        → (area'' : A) → area'' ≡ area_of book'' → SettlesStill tells of area area'' links links'
    still_settled settled area'' is_area = rw is_area (λ told. (
      ((opens.found told).0, (opens.found told).1),
      λ calm. ((value_of book'').firm, closes told (settled (λ rose. calm (omega (arith, device, rose))))),
    ))

  module _ (setup : Setup) (told : Told tells) (laws : AreaLaws tells) (stay : ItemsStay) (grow : FilesGrow)
      (shuts : (h : List HistoryEntry) → is_close_due h ≡ false → AreShut (items_of h)) (in_turn : StaysInTurn) (later_reply : ReplyLater) (fresh : is_broken writer ≡ true)
      (by : settings_in writer ≡ files_at of setup) (leaves : LeavesFit book'') where
    abbrev Grown : A → F → X → Type 0
    Grown area'' shelf'' x = (history : List HistoryEntry)
        × HasServed tells files of setup area area'' shelf shelf'' links links' history
        × (octets x ≡ served_line history)

    by_ok : (r : Result X Status) → IfOk r (λ x. HasLine tells files service book' book'' writer'' (octets x))
        → IfOk r (Grown (area_of book'') (shelf_of writer''))
    by_ok (Err ended) has = tt
    by_ok (Ok x) has = (
      (value_of book'').firm,
      has_served tells files of setup told stay grow area shelf book book' book'' writer writer' writer'' links links'
          clock clock' service (octets x)
          fresh on by serves settles.stays.1 (settles.files_stay (told_lists tells told)) has
          (closes laws shuts in_turn later_reply leaves told has.settled)
          (begins laws shuts in_turn later_reply leaves told has.settled),
      has.line_is told,
    )

    pub serves_as : (area'' : A) (shelf'' : F) → area'' ≡ area_of book'' → shelf'' ≡ shelf_of writer''
        → IfOk result (Grown area'' shelf'')
    serves_as area'' shelf'' is_area is_shelf =
        subst (λ (a : A). IfOk result (Grown a shelf'')) (sym is_area)
        (subst (λ (f : F). IfOk result (Grown (area_of book'') f)) (sym is_shelf) (by_ok result settles.ok))

  -- Nothing is lost.

  module _ (laws : AreaLaws tells) (later_reply : ReplyLater) (leaves : LeavesFit book'')
      (reads : Told tells → (h : List HistoryEntry) → StandsFitFor (header_at tells area of.ip) (tells.octets area) h → FindsHistory {tells = tells} area (Ok book) h)
      (anew : Told tells → Starts (header_at tells area of.ip) (tells.octets area) → IsMadeAnew {tells = tells} area (Ok book) (header_at tells area of.ip)) where
    found_is : Told tells → (start : List HistoryEntry) → StandsOrStarts (header_at tells area of.ip) (tells.octets area) start → (value_of book).firm ≡ start
    found_is told start (inl stands) =
        ap (λ (v : BookValue). v.firm) (reads told start stands).value ∙ (opened_is_fresh (tells.size area) start).firm
    found_is told start (inr starts) =
        ap (λ (v : BookValue). v.firm) (anew told starts.0).value ∙ (opened_is_fresh (tells.size area) []).firm ∙ sym starts.1

    -- what was found begins what was firm once it had served
    served_front : Told tells → (start : List HistoryEntry) → StandsOrStarts (header_at tells area of.ip)
        (tells.octets area) start
        → Begins start (value_of book').firm
    served_front told start found =
        rw (found_is told start found) at (serves.goes_on (told_lists tells told)).goes.begins

    -- what any crash leaves stands for a history that begins with what is firm, and with what was firm before the
    -- settling
    abbrev LeftBehind : List ℕ → Type 0
    LeftBehind c = (history : List HistoryEntry) × StandsFitFor (header_at tells area of.ip) c history
        × Begins (value_of book'').firm history × Begins (value_of book').firm history

    left_behind : Told tells → (c : List ℕ) → tells.may_leave (area_of book'') c → LeftBehind c
    left_behind told c may = ⊎_elim
        (λ (s : StandsFitFor (header_of book'') c (value_of book'').firm). stands_for (value_of book'').firm (begins_self (value_of book'').firm) s)
        (λ (s : StandsFitFor (header_of book'') c ((value_of book'').firm ++ (value_of book'').rest)).
        stands_for ((value_of book'').firm ++ (value_of book'').rest) ((value_of book'').rest, refl) s)
        (leaves.any told c may)
      where
        named : header_of book'' ≡ header_at tells area of.ip
        named = settles.stays.0.header ∙ serves.stays.name ∙ opens.named

        stands_for : (history : List HistoryEntry) → Begins (value_of book'').firm history → StandsFitFor
            (header_of book'') c history → LeftBehind c
        stands_for history begins stands = (
          history,
          rw named at stands,
          begins,
          begins_then (value_of book').firm (value_of book'').firm history (settles.grows told) begins,
        )

    goes_on_in : Told tells → (start : List HistoryEntry) → StandsOrStarts (header_at tells area of.ip)
        (tells.octets area) start
        → (c : List ℕ) → tells.may_leave (area_of book'') c → GoesOnIn tells of area (area_of book'') links links'
        start c
    goes_on_in told start found c may =
        let left = left_behind told c may in
        record {
          history = left.0;
          stands = inl left.1;
          begins = begins_then start (value_of book').firm left.0 (served_front told start found) left.3;
          replies = replies_rest tells files of told area book book' book'' writer writer' links links' clock clock'
              service open_time sized opens serves
              settles.later.0 later_reply left.0 left.3;
        }

    pub keeps_as : (area'' : A) → area'' ≡ area_of book'' → LosesNothing tells of area area'' links links'
    keeps_as area'' is_area told start holds = record { now = all (tells.octets area'') (laws.holds area''); crash = all }
      where
        all : (c : List ℕ) → tells.may_leave area'' c → GoesOnIn tells of area area'' links links' start c
        all = rw is_area (goes_on_in told start holds.now)

    -- So it is of the files.
    module _ (setup : Setup) (stay : ItemsStay) (grow : FilesGrow) (fresh : is_broken writer ≡ true)
        (by : settings_in writer ≡ files_at of setup) where
      filed_in : Told tells → IsTrue files.tells_files → (start : List HistoryEntry) → StandsOrStarts
          (header_at tells area of.ip) (tells.octets area) start
          → HasFirstFiles (files_at of setup) start (files.files shelf) → (c : List ℕ) → tells.may_leave
          (area_of book'') c
          → IsFiledIn tells files of setup area (shelf_of writer'') start c
      filed_in told tells_files start found first c may =
          let left = left_behind told c may in
          let front : Begins start left.0 = begins_then start (value_of book').firm left.0
          (served_front told start found) left.3 in
          record {
            history = left.0;
            stands = inl left.1;
            begins = front;
            filed = first_of_all files writer'' (files_at of setup) left.0 (settles.stays.1 ∙ serves.kept.settings ∙ by)
                (settles.files_stay (told_lists tells told) tells_files (items_of left.0)
                (items_begin stay (value_of book'').firm left.0 left.2)
                (serves.kept.files (told_lists tells told) tells_files (items_of left.0)
                (items_begin stay (value_of book').firm left.0 left.3)
                (first_holds files stay grow (files_at of setup) start left.0 shelf writer fresh on by front first)));
          }

      pub shelf_as : (area'' : A) (shelf'' : F) → area'' ≡ area_of book'' → shelf'' ≡ shelf_of writer''
          → KeepsShelf tells files of setup area area'' shelf shelf''
      shelf_as area'' shelf'' is_area is_shelf = rw (is_area, is_shelf) (λ told tells_files start holds first. (
        filed_in told tells_files start holds.now first (tells.octets (area_of book'')) (laws.holds (area_of book'')),
        filed_in told tells_files start holds.now first,
      ))
