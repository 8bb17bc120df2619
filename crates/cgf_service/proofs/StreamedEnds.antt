-- How the job ends that answers a stream, and why.
use Rattle.std.proofs.Common.{◌≡◌, ◌≢◌, ℕ, ◌≤◌, ◌⊎◌, ⊎_elim, inl, inr, true, false, List, [], ◌∷◌, ◌++◌, length, length-append, Option, Some, None, Result, Ok, Err, refl, sym, ap, subst, ◌∙◌, append-nil, arith}
use Rattle.cgf_service.proofs.Names.{Appends, area_of, AreaLaws, AreShut, Book, BookFault, CausesStop, Connection, Consumes, default_setup, end_by, EndsAsSaid, FindsHistory, first_fault, FrameKind, frames, HasAnswered, HasAnsweredAll, HasClosed, HasGoneTo, HasServedStream, HasSettledStream, header_at, HistoryEntry, HoldsHistory, is_broken, is_close_due, IsGoingOn, IsMadeAnew, IsNotOurs, IsOpened, IsRefused, IsStreamRead, IsUnopened, items_of, Job, KeepsAnswers, LeavesBehind, LeavesUnanswered, most_stream, nil_from_length, octets_sent, of_frame, rest_of, rest_place, Settings, settings_in, SettlesAs, shelf_of, StandsFitFor, StandsFor, StandsOrStarts, Starts, Status, status_by, stream_end, stream_settings, Streaming, Streams, Told, Writer}
use Rattle.area_disk.specs.Disk as disk
use Rattle.area_disk.specs.declared.area.Area as areas
use Rattle.cdr_shelf.specs.declared.shelf.Shelf as shelves
use Rattle.gateway_book.specs.declared.outcome.BookFault.TheVariants as of_book
use Rattle.replay_gateway.specs.Settings.{AreSet}
use Rattle.replay_world.specs.declared.replay.Played.{Played}
use Rattle.replay_gateway.specs.declared.settings.Settings.{Settings as ReplaySettings}
use Rattle.route_filter.specs.declared.rule.Rule.{Rule}
use Rattle.cgf_jobs.specs.declared.status.Status.TheVariants as status
use Rattle.cgf_jobs.specs.declared.status.StoreFault.TheVariants as fault
use Rattle.cgf_service.proofs.PieceLemmas.{ok_not_err}
use Rattle.cgf_service.proofs.ServedLemmas.{FilesGrow, ItemsStay}
use Rattle.cgf_service.proofs.StreamLemmas.{all_gone}
use Rattle.cgf_service.proofs.StreamedLemmas.{answered, answers_kept, closed_behind_them, cut_in_last, settled_behind, written_all, written_front}
use Rattle.cgf_service.proofs.InputLemmas.{consumes_none}

abbrev Entries : Type 0
Entries = List HistoryEntry

-- What was read of a stream says how all of it ends.

abbrev pub RestCut : Type 0
RestCut = (part more : List ℕ) → rest_of (part ++ more) ≡ rest_of (rest_of part ++ more)

abbrev pub BadEnds : Type 0
BadEnds = (octets : List ℕ) (kind : FrameKind) → first_fault octets ≡ Some kind → (frames octets ≡ []) × (rest_of octets ≡ octets)

fault_stays : (octets more : List ℕ) (kind : FrameKind) → first_fault octets ≡ Some kind → first_fault (octets ++ more) ≡ Some kind
fault_stays [] more kind bad = absurd (cc bad)
fault_stays (x ∷ octets) more kind bad = bad

bad_stays : RestCut → BadEnds → (text more : List ℕ) (kind : FrameKind) → first_fault (rest_of text) ≡ Some kind
    → stream_end (text ++ more) ≡ stream_end text
bad_stays rest_cut bad_ends text more kind bad =
    ap (λ (k : Option FrameKind). end_by k (text ++ more)) (ap (λ (l : List ℕ). first_fault l) rest_is ∙ fault_is)
    ∙ ap (λ (n : ℕ). status.Input n (of_frame kind)) place_is
    ∙ sym (ap (λ (k : Option FrameKind). end_by k text) bad)
  where
    fault_is : first_fault (rest_of text ++ more) ≡ Some kind
    fault_is = fault_stays (rest_of text) more kind bad

    rest_is : rest_of (text ++ more) ≡ rest_of text ++ more
    rest_is = rest_cut text more ∙ (bad_ends (rest_of text ++ more) kind fault_is).1

    place_is : rest_place (text ++ more) ≡ rest_place text
    place_is = omega (arith, length-append text more, ap (λ (l : List ℕ). length l) rest_is, length-append (rest_of text) more)

read_by : RestCut → BadEnds → (whole text rest : List ℕ) → whole ≡ text ++ rest → length whole ≤ most_stream
    → IsStreamRead (Some whole) (Some rest) text → stream_end whole ≡ stream_end text
read_by rest_cut bad_ends whole text rest is short read = by (first_fault (rest_of text)) refl
  where
    all : rest ≡ [] → stream_end whole ≡ stream_end text
    all none = ap (λ (l : List ℕ). stream_end l) (is ∙ ap (λ (l : List ℕ). text ++ l) none ∙ append-nil text)

    by : (k : Option FrameKind) → first_fault (rest_of text) ≡ k → stream_end whole ≡ stream_end text
    by (Some kind) bad = ap (λ (l : List ℕ). stream_end l) is ∙ bad_stays rest_cut bad_ends text rest kind bad
    by None good = ⊎_elim
        (λ (full : length text ≡ most_stream). all (nil_from_length rest
        (omega (arith, full, short, ap (λ (l : List ℕ). length l) is, length-append text rest))))
        (λ (at_end : rest ≡ []). all at_end) (read.whole good)

read_all : RestCut → BadEnds → (left rest : Option (List ℕ)) (whole text : List ℕ) → left ≡ Some whole → length whole ≤ most_stream
    → IsStreamRead left rest text → stream_end whole ≡ stream_end text
read_all rest_cut bad_ends left rest whole text is short read =
    by rest (rw is at read)
  where
    by : (r : Option (List ℕ)) → IsStreamRead (Some whole) r text → stream_end whole ≡ stream_end text
    by None r = absurd r.consumed
    by (Some after) r = read_by rest_cut bad_ends whole text after r.consumed short r

-- The gateway wasn't opened, and nothing was read or written.

abbrev fault_of : Status → BookFault
fault_of (status.Store (fault.NotOurs n)) = of_book.NotOurs n
fault_of _ = of_book.Device

abbrev pub unread : List (List ℕ) → Option (List ℕ) → Option (List ℕ) → ℕ → ℕ → Job
unread words left before read written = record {
  words = words;
  left = left;
  rest = left;
  before = before;
  after = before;
  read_before = read;
  read_after = read;
  written_before = written;
  written_after = written;
}

module _ {A F : Type 0} (tells : areas.Ghosts A) (files : shelves.Ghosts F) (of : Streaming) (words : List (List ℕ))
    (l w : Option (List ℕ)) (rs ws : ℕ) (area : A) (shelf : F) (clock : ℕ) where
  abbrev job : Job
  job = unread words l w rs ws

  -- the area holds the history that it held
  abbrev pub HoldsStill : A → Type 0
  HoldsStill area' = Told tells → (start : Entries) → HoldsHistory tells (header_at tells area of.ip) area start
      → HoldsHistory tells (header_at tells area of.ip) area' start

  untouched : {area' : A} → HoldsStill area' → (ended : Status) → Told tells
      → IsUnopened tells files of job area area' shelf shelf clock clock ended
  untouched keeps ended told = record {
    unread = refl;
    unwritten = refl;
    same_shelf = refl;
    same_clock = refl;
    keeps = keeps told;
  }

  pub stops_memory : (area' : A) → HoldsStill area' → Streams tells files of job area area' shelf shelf clock clock status.Memory None
  stops_memory area' keeps = record {
    told = λ is. absurd (cc is);
    decided = λ is. absurd (cc is);
    front = λ told is. absurd (cc is);
    first = λ told no. inl (untouched keeps status.Memory told);
    behind = λ is. inl refl;
    device = λ is. absurd (cc is);
    foreign = λ at is. absurd (cc is);
    link = λ is. absurd (cc is);
    time = λ no. refl;
    cause = (refl, refl);
    known = tt;
    bound = ([], omega arith, consumes_none l);
    none = refl;
    complete = λ calm told text is short. record { ours = λ h stands. inl refl; others = λ at foreign. inl refl };
  }

  module _ (why : BookFault) (area' : A) (refused : IsRefused tells area (header_at tells area of.ip) (why, area'))
      (ours : (octets : List ℕ) (h : Entries) (at : ℕ) → StandsFitFor (header_at tells area of.ip) octets h
      → ¬ (IsNotOurs (header_at tells area of.ip) octets at))
      (others : (octets : List ℕ) (at : ℕ) → IsNotOurs (header_at tells area of.ip) octets at → ¬ (Starts (header_at tells area of.ip) octets)) where
    not_both : (h : Entries) (at : ℕ) → StandsOrStarts (header_at tells area of.ip) (tells.octets area) h
        → IsNotOurs (header_at tells area of.ip) (tells.octets area) at → ⊥
    not_both h at (inl stands) foreign = ours (tells.octets area) h at stands foreign
    not_both h at (inr starts) foreign = others (tells.octets area) at foreign starts.0

  pub stops_unopened : (why : BookFault) (area' : A) → IsRefused tells area (header_at tells area of.ip) (why, area')
      → ((octets : List ℕ) (h : Entries) (at : ℕ) → StandsFitFor (header_at tells area of.ip) octets h
      → ¬ (IsNotOurs (header_at tells area of.ip) octets at))
      → ((octets : List ℕ) (at : ℕ) → IsNotOurs (header_at tells area of.ip) octets at → ¬ (Starts (header_at tells area of.ip) octets))
      → (Told tells → (at : ℕ) → IsNotOurs (header_at tells area of.ip) (tells.octets area) at
      → (why ≡ of_book.NotOurs at) ⊎ ((why ≡ of_book.Device) ⊎ (why ≡ of_book.NoMemory)))
      → HoldsStill area' → Streams tells files of job area area' shelf shelf clock clock (status_by why) None
  stops_unopened of_book.NoMemory area' refused ours others refuses keeps = stops_memory area' keeps
  stops_unopened of_book.Device area' refused ours others refuses keeps = record {
    told = λ is. absurd (cc is);
    decided = λ is. absurd (cc is);
    front = λ told is. absurd (cc is);
    first = λ told no. inl (untouched keeps (status.Store fault.Device) told);
    behind = λ is. inl refl;
    device = λ is. inl (refused.cause refl);
    foreign = λ at is. absurd (cc is);
    link = λ is. absurd (cc is);
    time = λ no. refl;
    cause = (refl, refl);
    known = tt;
    bound = ([], omega arith, consumes_none l);
    none = refl;
    complete = λ calm told text is short. absurd (calm.device (refused.cause refl));
  }
  stops_unopened (of_book.NotOurs place) area' refused ours others refuses keeps = record {
    told = λ is. absurd (cc is);
    decided = λ is. absurd (cc is);
    front = λ told is. absurd (cc is);
    first = λ told no. inl (untouched keeps (status.Store (fault.NotOurs place)) told);
    behind = λ is. inl refl;
    device = λ is. absurd (cc is);
    foreign = λ at is. (
      refl,
      refl,
      refl,
      refl,
      λ told. (
        refused.place told at (ap (λ (s : Status). fault_of s) is),
        refused.unwritten told (λ e. cc e),
      ),
    );
    link = λ is. absurd (cc is);
    time = λ no. refl;
    cause = (refl, refl);
    known = tt;
    bound = ([], omega arith, consumes_none l);
    none = refl;
    complete = λ calm told text is short. record {
      ours = λ h stands. absurd (not_both (of_book.NotOurs place) area' refused ours others h place stands (refused.place told place refl));
      others = λ at foreign. ⊎_elim
          (λ (e : of_book.NotOurs place ≡ of_book.NotOurs at). inr (ap (λ (b : BookFault). status_by b) e))
          (λ o. ⊎_elim (λ (e : of_book.NotOurs place ≡ of_book.Device). absurd (cc e)) (λ (e : of_book.NotOurs place ≡ of_book.NoMemory). absurd (cc e)) o)
          (refuses told at foreign);
    };
  }

module _ {A F : Type 0} (tells : areas.Ghosts A) (files : shelves.Ghosts F) (of : Streaming) (words : List (List ℕ))
    (l w : Option (List ℕ)) (rs ws : ℕ) (area : A) (shelf : F) (clock : ℕ) where
  -- what a crash leaves of an area whose opening failed stands as it did, or starts, where it was to be made anew
  unopened_holds : (why : BookFault) (area' : A) → AreaLaws tells
      → (Told tells → (h : Entries) → StandsFitFor (header_at tells area of.ip) (tells.octets area) h → FindsHistory {tells = tells} area (Err (why, area')) h)
      → (Told tells → Starts (header_at tells area of.ip) (tells.octets area) → IsMadeAnew {tells = tells} area (Err (why, area')) (header_at tells area of.ip))
      → HoldsStill tells files of words l w rs ws area shelf clock area'
  unopened_holds why area' laws reads anew told start holds = record {
    now = left (tells.octets area') (laws.holds area') holds.now;
    crash = λ c may. left c may holds.now;
  }
    where
      left : (c : List ℕ) → tells.may_leave area' c → StandsOrStarts (header_at tells area of.ip) (tells.octets area) start → StandsOrStarts (header_at tells area of.ip) c start
      left c may (inl stands) = holds.crash c ((reads told start stands).moments.now c may)
      left c may (inr starts) = ⊎_elim
          (λ (old : tells.may_leave area c). holds.crash c old)
          (λ (made : Starts (header_at tells area of.ip) c ⊎ StandsFor (header_at tells area of.ip) c []). ⊎_elim
          (λ (s : Starts (header_at tells area of.ip) c). inr (s, starts.1))
          (λ (s : StandsFor (header_at tells area of.ip) c []). inl (subst (λ (h : Entries). StandsFitFor (header_at tells area of.ip) c h) (sym starts.1)
          (record { stands = s; fit = tt }))) made)
          ((anew told starts.0).moments.now c may)

  pub unopened_as : (why : BookFault) (area' area'' : A) (shelf'' : F) (ended : Status) (played : Option Played)
      → IsRefused tells area (header_at tells area of.ip) (why, area')
      → ((octets : List ℕ) (h : Entries) (at : ℕ) → StandsFitFor (header_at tells area of.ip) octets h
      → ¬ (IsNotOurs (header_at tells area of.ip) octets at))
      → ((octets : List ℕ) (at : ℕ) → IsNotOurs (header_at tells area of.ip) octets at → ¬ (Starts (header_at tells area of.ip) octets))
      → (Told tells → (at : ℕ) → IsNotOurs (header_at tells area of.ip) (tells.octets area) at
      → (why ≡ of_book.NotOurs at) ⊎ ((why ≡ of_book.Device) ⊎ (why ≡ of_book.NoMemory)))
      → AreaLaws tells
      → (Told tells → (h : Entries) → StandsFitFor (header_at tells area of.ip) (tells.octets area) h → FindsHistory {tells = tells} area (Err (why, area')) h)
      → (Told tells → Starts (header_at tells area of.ip) (tells.octets area) → IsMadeAnew {tells = tells} area (Err (why, area')) (header_at tells area of.ip))
      → area'' ≡ area' → shelf'' ≡ shelf → ended ≡ status_by why → played ≡ None
      → Streams tells files of (unread words l w rs ws) area area'' shelf shelf'' clock clock ended played
  unopened_as why area' area'' shelf'' ended played refused ours others refuses laws reads anew is_area is_shelf ends none =
      rw (is_area, is_shelf, ends, none)
      (stops_unopened tells files of words l w rs ws area shelf clock why area' refused ours others
      refuses (unopened_holds why area' laws reads anew))

-- the settings of the files are those that hold where nothing is set
pub first_set : (ip : ℕ) (rules : List Rule) (s : ReplaySettings) → rules ≡ [] → AreSet default_setup s → ◌≡◌ {A = Settings} (record {
  rules = rules;
  limits = s.limits;
  profile = s.profile;
  file = record { offset = s.offset; address = ip };
}) (stream_settings ip)
first_set ip rules s none are = λ i. record {
  rules = none i;
  limits = sym are.limits i;
  profile = sym are.profile i;
  file = record { offset = sym are.offset i; address = ip };
}

-- The gateway was opened, answered, and was settled.
module _ {A F : Type 0} (tells : areas.Ghosts A) (files : shelves.Ghosts F) (of : Streaming) (job : Job)
    (area area' : A) (shelf shelf' : F) (clock clock' : ℕ) (book : Book A tells) (c : Connection A tells) (open_time : ℕ)
    (sized : tells.size (area_of book) ≡ tells.size area) (opens : IsOpened (header_at tells area of.ip) area open_time book)
    (node : c.node ≡ of.node) (writer : Writer F files) (fresh : is_broken writer ≡ true) (on : shelf_of writer ≡ shelf)
    (set : settings_in writer ≡ stream_settings of.ip)
    (laws : AreaLaws tells) (stay : ItemsStay) (files_grow : FilesGrow) (rest_cut : RestCut) (bad_ends : BadEnds)
    (shuts : (h : Entries) → is_close_due h ≡ false → AreShut (items_of h))
    (ours : (octets : List ℕ) (h : Entries) (at : ℕ) → StandsFitFor (header_at tells area of.ip) octets h
    → ¬ (IsNotOurs (header_at tells area of.ip) octets at))
    (others : (octets : List ℕ) (at : ℕ) → IsNotOurs (header_at tells area of.ip) octets at → ¬ (Starts (header_at tells area of.ip) octets)) where
  abbrev Holds : Type 0
  Holds = Told tells → (octets : List ℕ) → tells.may_leave area' octets → LeavesBehind tells files c writer shelf'
      octets

  abbrev Closes : Type 0
  Closes = ¬ (disk.Rose (tells.faults (area_of c.book)) (tells.faults area')) → HasClosed tells c area'

  not_behind : {P : Type 0} (ended : Status) → ended ≢ status.Memory → ended ≢ status.Store fault.Device
      → (ended ≡ status.Memory) ⊎ (ended ≡ status.Store fault.Device) → P
  not_behind ended memory device (inl is) = absurd (memory is)
  not_behind ended memory device (inr is) = absurd (device is)

  abbrev Ends : Status → Type 0
  Ends ended = Streams tells files of job area area' shelf shelf' clock clock' ended None

  not_foreign : Told tells → (at : ℕ) → IsNotOurs (header_at tells area of.ip) (tells.octets area) at → ⊥
  not_foreign told at foreign = ⊎_elim
      (λ (s : StandsFitFor (header_at tells area of.ip) (tells.octets area) (opens.found told).0). ours (tells.octets area) (opens.found told).0 at s foreign)
      (λ s. others (tells.octets area) at foreign s.0) (opens.found told).1

  as_said : (ended : Status) (text whole : List ℕ) → Told tells → job.left ≡ Some whole → length whole ≤ most_stream
      → IsStreamRead job.left job.rest text → ended ≡ stream_end text
      → EndsAsSaid tells files of job area area' shelf shelf' clock clock' ended whole
  as_said ended text whole told is short read ends = record {
    ours = λ h stands. inr (ends ∙ sym (read_all rest_cut bad_ends job.left job.rest whole text is short read));
    others = λ at foreign. absurd (not_foreign told at foreign);
  }

  module _ (later : tells.faults (area_of c.book) ≤ tells.faults area') (keeps : Holds) (closes : Closes) where
    -- the first messages of these octets were answered, and this is to be sent for them
    module _ (text sent : List ℕ) (consumed : Consumes job.left job.rest text) (gone : HasGoneTo tells book text sent c)
        (ended : Status) (told : Told tells) where
      abbrev of_them : HasAnswered tells files of job area area' shelf shelf' clock clock' ended
      of_them = answered tells files of job area area' shelf shelf' clock clock' book c open_time sized opens node later
          text sent consumed told gone ended

      -- nothing is lost of what was answered, and the gateway was closed behind it
      kept : KeepsAnswers tells files of job area area' shelf shelf' clock clock' ended of_them
      kept = answers_kept tells files of job area area' shelf shelf' clock clock' book c open_time sized opens node
          later text
          sent consumed told gone writer fresh on set stay files_grow laws (keeps told) ended (λ calm. (
            _,
            closed_behind_them tells files of job area area' shelf shelf' clock clock' book c open_time sized opens node later text sent
                consumed told gone laws shuts
                (closes (λ rose. calm (omega (arith, rose, opens.faults, gone.cuts.later)))) ended,
          ))

      all_sent : Appends job.before job.after sent
          → Appends job.before job.after
          (octets_sent tells files of job area area' shelf shelf' clock clock' ended of_them)
      all_sent written = written_all tells files of job area area' shelf shelf' clock clock' book c open_time sized
          opens node
          later text sent consumed told gone ended written

      first_so : LeavesUnanswered ended gone.unanswered → Appends job.before job.after sent
          → (s : HasAnswered tells files of job area area' shelf shelf' clock clock' ended) × LeavesUnanswered ended
          s.unanswered
          × Appends job.before job.after (octets_sent tells files of job area area' shelf shelf' clock clock' ended s)
          × KeepsAnswers tells files of job area area' shelf shelf' clock clock' ended s
      first_so leaves written = (of_them, leaves, all_sent written, kept)

      all_answered : gone.unanswered ≡ [] → Appends job.before job.after sent → IsStreamRead job.left job.rest text
          → ended ≡ stream_end text
          → HasAnsweredAll tells files of job area area' shelf shelf' clock clock' ended of_them
      all_answered none written read decides = record {
        all = none;
        written = all_sent written;
        read = read;
        decided = decides;
      }

    -- the serving ended well
    module _ (text sent : List ℕ) (consumed : Consumes job.left job.rest text) (bounded : length text ≤ most_stream)
        (goes : IsGoingOn tells book text sent c) (says : stream_end text ≡ status.Done) (read : IsStreamRead job.left job.rest text)
        (written : Appends job.before job.after sent) (stood : (job.read_after ≡ job.read_before) ×
        (job.written_after ≡ job.written_before)) (ticked : clock' ≡ clock) where
      abbrev gone : HasGoneTo tells book text sent c
      gone = (all_gone tells book text sent c goes).0

      device_rose : (disk.Rose (tells.faults (area_of c.book)) (tells.faults area') ⊎ disk.Rose (files.faults (shelf_of writer)) (files.faults shelf'))
          → disk.Rose (tells.faults area) (tells.faults area') ⊎ disk.Rose (files.faults shelf) (files.faults shelf')
      device_rose (inl rose) = inl (omega (arith, rose, opens.faults, goes.cuts.later))
      device_rose (inr rose) = inr (rw on at rose)

      ends_well : (ended : Status) → SettlesAs tells files c writer area' shelf' ended → Ends ended
      ends_well status.Done e = record {
        told = λ is told. (
          of_them text sent consumed gone status.Done told,
          all_answered text sent consumed gone status.Done told refl written read (sym says),
          kept text sent consumed gone status.Done told,
          λ done. (
            _,
            settled_behind tells files of job area area' shelf shelf' clock clock' book c open_time sized opens node later text sent consumed told gone
                laws stay files_grow shuts writer fresh on set e status.Done,
          ),
        );
        decided = λ is. (text, read, sym says);
        front = λ told is. absurd (cc is);
        first = λ told no. inr (first_so text sent consumed gone status.Done told refl written);
        behind = λ is. not_behind status.Done (λ e. cc e) (λ e. cc e) is;
        device = λ is. absurd (cc is);
        foreign = λ at is. absurd (cc is);
        link = λ is. absurd (cc is);
        time = λ no. ticked;
        cause = stood;
        known = tt;
        bound = (text, bounded, consumed);
        none = refl;
        complete = λ calm told whole is short. as_said status.Done text whole told is short read (sym says);
      }
      ends_well status.Memory e = record {
        told = λ is. absurd (cc is);
        decided = λ is. absurd (cc is);
        front = λ told is. absurd (cc is);
        first = λ told no. inr (first_so text sent consumed gone status.Memory told refl written);
        behind = λ is. inr (text, read, says);
        device = λ is. absurd (cc is);
        foreign = λ at is. absurd (cc is);
        link = λ is. absurd (cc is);
        time = λ no. ticked;
        cause = stood;
        known = tt;
        bound = (text, bounded, consumed);
        none = refl;
        complete = λ calm told whole is short. record { ours = λ h stands. inl refl; others = λ at foreign. inl refl };
      }
      ends_well (status.Store fault.Device) e = record {
        told = λ is. absurd (cc is);
        decided = λ is. absurd (cc is);
        front = λ told is. absurd (cc is);
        first = λ told no. inr (first_so text sent consumed gone (status.Store fault.Device) told refl written);
        behind = λ is. inr (text, read, says);
        device = λ is. device_rose e;
        foreign = λ at is. absurd (cc is);
        link = λ is. absurd (cc is);
        time = λ no. ticked;
        cause = stood;
        known = tt;
        bound = (text, bounded, consumed);
        none = refl;
        complete = λ calm told whole is short. absurd (⊎_elim (λ rose. calm.device rose) (λ rose. calm.shelf_runs rose) (device_rose e));
      }
      ends_well _ e = absurd e

    -- something else ended it
    ends_badly : (why : Status) → HasServedStream tells book c job.left job.rest job.before job.after (Err why)
        → CausesStop {X = Unit} job.read_before job.read_after job.written_before job.written_after clock clock' (Err why) → Ends why
    ends_badly (status.Input place kind) served causes = record {
      told = λ is told. (
        of_them served.text served.sent served.consumed (served.refused place kind refl).0
            (status.Input place kind) told,
        all_answered served.text served.sent served.consumed (served.refused place kind refl).0
            (status.Input place kind) told
            (served.refused place kind refl).1 (served.whole (λ e. cc e)) (served.refused place kind refl).3
            (sym (served.refused place kind refl).2),
        kept served.text served.sent served.consumed (served.refused place kind refl).0 (status.Input place kind) told,
        λ done. absurd (cc done),
      );
      decided = λ is. (served.text, (served.refused place kind refl).3, sym (served.refused place kind refl).2);
      front = λ told is. absurd (cc is);
      first = λ told no. inr
          (first_so served.text served.sent served.consumed served.err.0 (status.Input place kind) told served.err.2
          (served.whole no));
      behind = λ is. not_behind (status.Input place kind) (λ e. cc e) (λ e. cc e) is;
      device = λ is. absurd (cc is);
      foreign = λ at is. absurd (cc is);
      link = λ is. absurd (cc is);
      time = λ no. causes.clock_stood (λ e. cc e);
      cause = (causes.source_stood (λ e. cc e), causes.sink_stood (λ e. cc e));
      known = tt;
      bound = (served.text, served.bounded, served.consumed);
      none = refl;
      complete = λ calm told whole is short. as_said (status.Input place kind) served.text whole told is short
          (served.refused place kind refl).3 (sym (served.refused place kind refl).2);
    }
    ends_badly status.Read served causes = record {
      told = λ is. absurd (cc is);
      decided = λ is. absurd (cc is);
      front = λ told is. absurd (cc is);
      first = λ told no. inr
          (first_so served.text served.sent served.consumed served.err.0 status.Read told served.err.2
          (served.whole no));
      behind = λ is. not_behind status.Read (λ e. cc e) (λ e. cc e) is;
      device = λ is. absurd (cc is);
      foreign = λ at is. absurd (cc is);
      link = λ is. absurd (cc is);
      time = λ no. causes.clock_stood (λ e. cc e);
      cause = (causes.source_failed refl, causes.sink_stood (λ e. cc e));
      known = tt;
      bound = (served.text, served.bounded, served.consumed);
      none = refl;
      complete = λ calm told whole is short. absurd (calm.source (causes.source_failed refl));
    }
    ends_badly status.Write served causes = record {
      told = λ is. absurd (cc is);
      decided = λ is. absurd (cc is);
      front = λ told is. (
        of_them served.text served.sent served.consumed (served.cut refl).gone status.Write told,
        written_front tells files of job area area' shelf shelf' clock clock' book c open_time sized opens node later served.text served.sent served.consumed told
            (served.cut refl).gone status.Write (served.front refl),
        cut_in_last tells files of job area area' shelf shelf' clock clock' book c open_time sized opens node later
            served.text served.sent served.consumed told
            (served.cut refl).gone status.Write (served.cut refl).earlier (served.cut refl).more
            ((served.cut refl).last told) (served.cut refl).count
            (served.cut refl).within (served.cut refl).written,
        kept served.text served.sent served.consumed (served.cut refl).gone status.Write told,
      );
      first = λ told no. absurd (no refl);
      behind = λ is. not_behind status.Write (λ e. cc e) (λ e. cc e) is;
      device = λ is. absurd (cc is);
      foreign = λ at is. absurd (cc is);
      link = λ is. absurd (cc is);
      time = λ no. causes.clock_stood (λ e. cc e);
      cause = (causes.source_stood (λ e. cc e), causes.sink_failed refl);
      known = tt;
      bound = (served.text, served.bounded, served.consumed);
      none = refl;
      complete = λ calm told whole is short. absurd (calm.sink (causes.sink_failed refl));
    }
    ends_badly status.Link served causes = record {
      told = λ is. absurd (cc is);
      decided = λ is. absurd (cc is);
      front = λ told is. absurd (cc is);
      first = λ told no. inr
          (first_so served.text served.sent served.consumed served.err.0 status.Link told served.err.2
          (served.whole no));
      behind = λ is. not_behind status.Link (λ e. cc e) (λ e. cc e) is;
      device = λ is. absurd (cc is);
      foreign = λ at is. absurd (cc is);
      link = λ is. causes.clock_failed refl;
      time = λ no. absurd (no refl);
      cause = (causes.source_stood (λ e. cc e), causes.sink_stood (λ e. cc e));
      known = tt;
      bound = (served.text, served.bounded, served.consumed);
      none = refl;
      complete = λ calm told whole is short. absurd (calm.time (causes.clock_failed refl));
    }
    ends_badly _ served causes = absurd (cc served.err.1)

  -- however it ended
  pub ends_streams : (served : Result Unit Status) (ended : Status) → HasServedStream tells book c job.left job.rest job.before job.after served
      → CausesStop job.read_before job.read_after job.written_before job.written_after clock clock' served
      → HasSettledStream tells files c writer served ended area' shelf' → Ends ended
  ends_streams (Ok done) ended served causes settles =
      let ok = served.ok refl in
      ends_well settles.later.0 settles.keeps settles.closed served.text served.sent served.consumed served.bounded ok.0
      ok.1 ok.2 ok.3
      (causes.source_stood (ok_not_err tt status.Read), causes.sink_stood (ok_not_err tt status.Write))
      (causes.clock_stood (ok_not_err tt status.Link))
      ended (settles.ok refl)
  ends_streams (Err why) ended served causes settles =
      rw settles.err (ends_badly settles.later.0 settles.keeps settles.closed why served causes)
