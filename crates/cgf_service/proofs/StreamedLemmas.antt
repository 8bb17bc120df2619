-- What a gateway leaves that answered a stream: its replies, its journal and its files.
use Rattle.std.proofs.Common.{◌≡◌, ℕ, ◌+◌, ◌<◌, ◌≤◌, ◌⊎◌, ⊎_elim, inl, inr, Bool, true, false, if◌then◌else◌, List, [], ◌∷◌, ◌++◌, length, take, Option, Some, None, Result, Ok, Err, IfErr, refl, sym, ap, subst, ◌∙◌, append-nil, arith}
use Rattle.cgf_service.proofs.Names.{act_decided, Addr, after_all, after_commit, after_message, AnswersAll, Appends, AppendsFront, area_of, AreaLaws, AreShut, base, Begins, Book, BookValue, closed_behind, closed_of, committed, Connection, Consumes, decided, facts_of, faulted, Fortune, given_at, Grows, HasAllFiles, HasAnswered, HasAnsweredAll, HasClosed, HasClosedBehind, HasEnded, HasFirstFiles, HasGoneTo, HasSettledBehind, HasSettledStream, HasTakenAll, header_at, header_of, history_of, HistoryAct, HistoryEntry, is_batch_full, is_broken, is_close_due, IsCutInLast, IsLastOf, IsOpened, IsSettled, IsStreamRead, IsTrue, items_of, Job, KeepsAnswers, LeavesBehind, LeavesFit, moment_of, no_caller, octets_sent, opened, prepared_of, readied, recorded_if, reopened, Reopening, sent_for, sent_for_all, Settings, settings_in, SettlesAs, shelf_of, size_of, StandsBehind, StandsFitFor, Status, Stays, stream_count, stream_division, stream_end, stream_files, stream_settings, Streaming, tells_lists, Told, Tried, tried, tried_with, value_of, WhereTold, Whole, Writer}
use Rattle.area_disk.specs.Disk as disk
use Rattle.area_disk.specs.declared.area.Area as areas
use Rattle.cdr_shelf.specs.declared.shelf.Shelf as shelves
use Rattle.node_session.specs.Writing as writing
use Rattle.cgf_jobs.specs.declared.status.Status.TheVariants as status
use Rattle.cgf_jobs.specs.declared.status.StoreFault.TheVariants as fault
use Rattle.cgf_service.proofs.InputLemmas.{length-files_from}
use Rattle.cgf_service.proofs.GrownLemmas.{closed_begins, none_due_behind, opened_is_fresh}
use Rattle.cgf_service.proofs.KeptLemmas.{told_lists}
use Rattle.cgf_service.proofs.PieceLemmas.{ok_not_err}
use Rattle.cgf_service.proofs.ReplyLemmas.{opened_runs, plain_replies}
use Rattle.cgf_service.proofs.SealedLemmas.{all_sealed}
use Rattle.cgf_service.proofs.ServedLemmas.{FilesGrow, ItemsStay, first_holds, first_of_all, items_begin}
use Rattle.cgf_service.proofs.ServiceLemmas.{begins_self, begins_then}
use Rattle.cgf_service.proofs.SettlingLemmas.{base_firmed, mended, mending}
use Rattle.cgf_service.proofs.StreamLemmas.{no_cut}

abbrev Entries : Type 0
Entries = List HistoryEntry

-- Whatever the device does to a call, the firm entries stay.

reopened_front : (v : BookValue) (r : Reopening) → Begins v.firm (reopened v r).firm
reopened_front v Whole = (v.rest, refl)
reopened_front v _ = begins_self v.firm

tried_front : (v : BookValue) (b : Bool) → Begins v.firm (if b then faulted v else committed v).firm
tried_front v true = begins_self v.firm
tried_front v false = (v.rest, refl)

rest_front : (f : Fortune) (v : BookValue) (rest : Entries) → Begins v.firm (tried_with f v rest).firm
rest_front f v [] = begins_self v.firm
rest_front f v (x ∷ rest) = tried_front v f.fails

commit_front : (f : Fortune) (v : BookValue) → Begins v.firm (after_commit f v).firm
commit_front f v = by v.is_broken
  where
    by : (b : Bool) → Begins v.firm (if b then reopened v f.reopening else tried_with f v v.rest).firm
    by true = reopened_front v f.reopening
    by false = rest_front f v v.rest

ready_front : (f : Fortune) (v : BookValue) → Begins v.firm (readied f v).firm
ready_front f v = by v.is_broken (is_batch_full v)
  where
    by : (b full : Bool) → Begins v.firm (if b then reopened v f.reopening else (if full then tried f v else v)).firm
    by true full = reopened_front v f.reopening
    by false true = tried_front v f.fails
    by false false = begins_self v.firm

recorded_front : (v : BookValue) (now : ℕ) (act : Option HistoryAct) → Begins v.firm (recorded_if v now no_caller act).firm
recorded_front v now None = begins_self v.firm
recorded_front v now (Some act) = begins_self v.firm

module _ (size : ℕ) (from : Addr) where
  message_front : (v : BookValue) (m : Tried) → Begins v.firm (after_message size from v m).firm
  message_front v m =
      let ready = readied m.taking v in
      let left = recorded_if ready m.now no_caller (act_decided (decided (given_at ready from (prepared_of m.octets) size))) in
      begins_then v.firm left.firm (after_commit m.committing left).firm
      (begins_then v.firm ready.firm left.firm (ready_front m.taking v)
      (recorded_front ready m.now (act_decided (decided (given_at ready from (prepared_of m.octets) size)))))
      (commit_front m.committing left)

  all_front : (v : BookValue) (tried : List Tried) → Begins v.firm (after_all size from v tried).firm
  all_front v [] = begins_self v.firm
  all_front v (m ∷ tried) =
      begins_then v.firm (after_message size from v m).firm (after_all size from (after_message size from v m) tried).firm
      (message_front v m) (all_front (after_message size from v m) tried)

-- A gateway that was opened has answered the first messages of what was read.
module _ {A F : Type 0} (tells : areas.Ghosts A) (files : shelves.Ghosts F) (of : Streaming) (job : Job)
    (area area' : A) (shelf shelf' : F) (clock clock' : ℕ) (book : Book A tells) (c : Connection A tells) (open_time : ℕ)
    (sized : tells.size (area_of book) ≡ tells.size area) (opens : IsOpened (header_at tells area of.ip) area open_time book)
    (node : c.node ≡ of.node) (later : tells.faults (area_of c.book) ≤ tells.faults area') (text sent : List ℕ)
    (consumed : Consumes job.left job.rest text) (told : Told tells) (gone : HasGoneTo tells book text sent c) where
  abbrev pub start : Entries
  start = (opens.found told).0

  value : value_of book ≡ opened (tells.size area) start
  value = (opens.found told).2

  abbrev pub of_all : AnswersAll tells c.node book gone.messages sent (tells.faults (area_of c.book))
  of_all = (gone.answers told).0

  abbrev pub left : BookValue
  left = after_all (tells.size area) of.node (opened (tells.size area) start) of_all.tried

  left_is : after_all (size_of book) c.node (value_of book) of_all.tried ≡ left
  left_is = λ i. after_all (sized i) (node i) (value i) of_all.tried

  -- the gateway is left as these messages leave it
  pub value_gone : value_of c.book ≡ left
  value_gone = (gone.answers told).1 ∙ left_is

  pub cuts_are : (left.cuts + tells.faults area ≤ tells.faults area') ⊎ (disk.last_count ≤ tells.faults area')
  cuts_are = by of_all.cuts
    where
      by : ((after_all (size_of book) c.node (value_of book) of_all.tried).cuts + tells.faults (area_of book) ≤ book.cuts + tells.faults (area_of c.book))
          ⊎ (disk.last_count ≤ tells.faults (area_of c.book))
          → (left.cuts + tells.faults area ≤ tells.faults area') ⊎ (disk.last_count ≤ tells.faults area')
      by (inl x) = inl (omega (arith, x, ap (λ (v : BookValue). v.cuts) left_is, opens.faults, opens.uncut, later))
      by (inr x) = inr (omega (arith, x, later))

  pub up : tells.faults area ≤ tells.faults area'
  up = omega (arith, opens.faults, gone.cuts.later, later)

  sent_are : sent ≡ sent_for_all (tells.size area) of.node (opened (tells.size area) start) of_all.tried
  sent_are = of_all.sent_are ∙ (λ i. sent_for_all (sized i) (node i) (value i) of_all.tried)

  abbrev pub answered : (ended : Status) → HasAnswered tells files of job area area' shelf shelf' clock clock' ended
  answered ended = record {
    start = start;
    found = (opens.found told).1;
    text = text;
    consumed = consumed;
    tried = of_all.tried;
    unanswered = gone.unanswered;
    messages = gone.frames_are ∙ ap (λ (l : List (List ℕ)). l ++ gone.unanswered) (sym of_all.octets_are);
    cuts = cuts_are;
    plain = λ still. plain_replies (tells.size area) of.node of_all.tried (opened (tells.size area) start) (history_of (opened (tells.size area) start))
        (opened_runs (tells.size area) start) (no_cut left.cuts (tells.faults area) (tells.faults area') up still cuts_are);
  }

  pub written_all : (ended : Status) → Appends job.before job.after sent
      → Appends job.before job.after (octets_sent tells files of job area area' shelf shelf' clock clock' ended (answered ended))
  written_all ended written = rw (← sent_are) written

  pub written_front : (ended : Status) → AppendsFront job.before job.after sent
      → AppendsFront job.before job.after (octets_sent tells files of job area area' shelf shelf' clock clock' ended (answered ended))
  written_front ended written = rw (← sent_are) written

  -- the reply to the last of them was cut
  pub cut_in_last : (ended : Status) (earlier more : List ℕ) → IsLastOf tells c.node book of_all.tried earlier more →
      (count : ℕ)
      → count ≤ length more → Appends job.before job.after (earlier ++ take count more)
      → IsCutInLast tells files of job area area' shelf shelf' clock clock' ended (answered ended)
  cut_in_last ended earlier more l count within written = record {
    first = l.first;
    last = l.last;
    tried_are = l.tried_are;
    count = count;
    within = rw more_is at within;
    written = rw (earlier_are, more_is) at written;
  }
    where
      earlier_are : earlier ≡ sent_for_all (tells.size area) of.node (opened (tells.size area) start) l.first
      earlier_are = l.sent_are ∙ (λ i. sent_for_all (sized i) (node i) (value i) l.first)

      more_is : more ≡ sent_for (tells.size area) of.node
          (after_all (tells.size area) of.node (opened (tells.size area) start) l.first) l.last
      more_is = l.more_is ∙ (λ i. sent_for (sized i) (node i) (after_all (sized i) (node i) (value i) l.first) l.last)

  -- what was found begins what was firm then
  left_front : Begins start left.firm
  left_front = rw (opened_is_fresh (tells.size area) start).firm at
      (all_front (tells.size area) of.node (opened (tells.size area) start) of_all.tried)

  -- What was firm is kept, and its files.
  module _ (writer : Writer F files) (fresh : is_broken writer ≡ true) (on : shelf_of writer ≡ shelf)
      (by : settings_in writer ≡ stream_settings of.ip) (stay : ItemsStay) (files_grow : FilesGrow)
      (laws : AreaLaws tells)
      (keeps : (octets : List ℕ) → tells.may_leave area' octets → LeavesBehind tells files c writer shelf' octets) where
    named : header_of c.book ≡ header_at tells area of.ip
    named = gone.stays.header ∙ opens.named

    abbrev stands_at : (octets : List ℕ) → tells.may_leave area' octets → StandsBehind (header_at tells area of.ip)
        left.firm octets
    stands_at octets may = record {
      history = (keeps octets may).history;
      stands = rw named at (keeps octets may).stands;
      begins = subst (λ (v : BookValue). Begins v.firm (keeps octets may).history) value_gone (keeps octets may).begins;
    }

    filed_at : IsTrue files.tells_files → HasFirstFiles (stream_settings of.ip) start (files.files shelf)
        → (octets : List ℕ) (may : tells.may_leave area' octets)
        → HasFirstFiles (stream_settings of.ip) (keeps octets may).history (files.files shelf')
    filed_at tells_files first octets may =
        subst (λ (settings : Settings). HasFirstFiles settings (keeps octets may).history (files.files shelf')) by
        ((keeps octets may).filed tells_files
        (first_holds files stay files_grow (stream_settings of.ip) start
        (keeps octets may).history shelf writer fresh on by
        (begins_then start left.firm (keeps octets may).history left_front (stands_at octets may).begins) first))

    pub answers_kept : (ended : Status)
        → (¬ (disk.Rose (tells.faults area) (tells.faults area')) → (history : Entries)
        × HasClosedBehind tells files of job area area' shelf shelf' clock clock' ended (answered ended) history)
        → KeepsAnswers tells files of job area area' shelf shelf' clock clock' ended (answered ended)
    answers_kept ended closes = record {
      now = stands_at (tells.octets area') (laws.holds area');
      crash = stands_at;
      sealed = λ tells_files first. (
        filed_at tells_files first (tells.octets area') (laws.holds area'),
        filed_at tells_files first,
      );
      closed = closes;
    }

  pub answered_all : (ended : Status) → gone.unanswered ≡ [] → Appends job.before job.after sent → IsStreamRead job.left job.rest text
      → ended ≡ stream_end text → HasAnsweredAll tells files of job area area' shelf shelf' clock clock' ended (answered ended)
  answered_all ended none written read decides = record {
    all = none;
    written = written_all ended written;
    read = read;
    decided = decides;
  }

  -- It was closed behind them.
  module _ (laws : AreaLaws tells) (shuts : (h : Entries) → is_close_due h ≡ false → AreShut (items_of h)) (e : HasClosed tells c area') where
    abbrev pub history : Entries
    history = (value_of e.book).firm

    abbrev pub firmed : Entries
    firmed = (after_commit (mending e.settled.drops) left).firm

    base_is : base e.settled.drops (facts_of c.book) ≡ firmed
    base_is = base_firmed c.book e.settled.drops e.settled.whole ∙ ap (λ (v : BookValue). (after_commit (mending e.settled.drops) v).firm) value_gone

    abbrev close_at : ℕ
    close_at = moment_of c.last

    pub history_is : history ≡ closed_behind firmed close_at no_caller
    history_is = e.settled.firm told ∙ ap (λ (l : Entries). closed_behind l close_at no_caller) base_is

    header_is : header_of e.book ≡ header_at tells area of.ip
    header_is = e.stays.header ∙ gone.stays.header ∙ opens.named

    leaves_whole : (octets : List ℕ) → tells.may_leave area' octets → StandsFitFor (header_at tells area of.ip) octets history
    leaves_whole octets may = rw header_is at (e.leaves.whole told e.settled.goes_on octets (rw e.area_is at may))

    pub front : Begins start history
    front = rw history_is (begins_then start firmed (closed_behind firmed close_at no_caller)
        (begins_then start left.firm firmed left_front (commit_front (mending e.settled.drops) left))
        (closed_begins firmed close_at no_caller))

    pub closed_behind_them : (ended : Status)
        → HasClosedBehind tells files of job area area' shelf shelf' clock clock' ended (answered ended) history
    closed_behind_them ended = record {
      last = mending e.settled.drops;
      mended = mended left e.settled.drops;
      history_is = history_is
          ∙ ap (λ (o : Option ℕ). closed_behind firmed (moment_of o) no_caller) (gone.answers told).2;
      stands = leaves_whole (tells.octets area') (laws.holds area');
      crash = leaves_whole;
      shut = shuts history (ap is_close_due (e.settled.firm told)
          ∙ none_due_behind (base e.settled.drops (facts_of c.book)) close_at no_caller);
    }

  -- It has answered all of them, and was settled.
  module _ (laws : AreaLaws tells) (stay : ItemsStay) (files_grow : FilesGrow)
      (shuts : (h : Entries) → is_close_due h ≡ false → AreShut (items_of h)) (writer : Writer F files)
      (fresh : is_broken writer ≡ true) (on : shelf_of writer ≡ shelf) (by : settings_in writer ≡ stream_settings of.ip)
      (e : HasEnded tells files c writer area' shelf') where
    abbrev whole : Entries
    whole = (value_of e.closed.book).firm

    sealed : IsTrue files.tells_files → HasFirstFiles (stream_settings of.ip) start (files.files shelf)
        → HasAllFiles (stream_settings of.ip) whole (files.files shelf')
    sealed tells_files first = subst (λ (f : F). HasAllFiles (stream_settings of.ip) whole (files.files f)) (sym e.shelf_is)
        (subst (λ (settings : Settings). HasAllFiles settings whole (files.files (shelf_of e.after))) (e.settings ∙ by)
        (all_sealed files e.after (items_of whole) (e.taken told).ready (e.taken told).count holds counted))
      where
        holds : writing.HoldsFilesOf (items_of whole) e.after
        holds = e.files_stay (told_lists tells told) tells_files (items_of whole) ([], sym (append-nil (items_of whole)))
            (first_holds files stay files_grow (stream_settings of.ip) start whole shelf writer fresh on by
            (front laws shuts e.closed) first)

        counted : (s : ℕ) → s < stream_count
            → length (stream_files (settings_in e.after) s (items_of whole)) ≤ closed_of (settings_in e.after) s (items_of whole)
        counted s lt =
            omega (
              arith,
              length-files_from (settings_in e.after).file s 1
                  (stream_division (settings_in e.after) s (items_of whole)).closed,
            )

    pub settled_behind : (ended : Status)
        → HasSettledBehind tells files of job area area' shelf shelf' clock clock' ended (answered ended) whole
    settled_behind ended = record { closed = closed_behind_them laws shuts e.closed ended; sealed = sealed }

-- How the settling ends the job.
module _ {A F : Type 0} (tells : areas.Ghosts A) (files : shelves.Ghosts F) (c : Connection A tells) (writer : Writer F files)
    (book : Book A tells) (after : Writer F files) (area : A) (shelf : F) (is_area : area ≡ area_of book) (is_shelf : shelf ≡ shelf_of after)
    (stays : Stays c.book book × (settings_in after ≡ settings_in writer))
    (later : (tells.faults (area_of c.book) ≤ tells.faults (area_of book)) × (files.faults (shelf_of writer) ≤ files.faults (shelf_of after)))
    (grows : Grows c.book book) (leaves : LeavesFit book) (now : ℕ) (moment : now ≡ moment_of c.last)
    (closes : ¬ (disk.Rose (tells.faults (area_of c.book)) (tells.faults (area_of book))) → IsSettled c.book book now
    no_caller)
    (stay : ItemsStay) (files_stay : WhereTold (tells_lists tells)
    (writing.KeepsFiles files (value_of book).firm writer after)) where
  -- what was firm before the settling stands in what a crash leaves behind it
  holds : Told tells → (octets : List ℕ) → tells.may_leave area octets → LeavesBehind tells files c writer shelf octets
  holds told octets may = ⊎_elim
      (λ (s : StandsFitFor (header_of book) octets (value_of book).firm). behind (value_of book).firm (begins_self (value_of book).firm) s)
      (λ (s : StandsFitFor (header_of book) octets ((value_of book).firm ++ (value_of book).rest)).
      behind ((value_of book).firm ++ (value_of book).rest) ((value_of book).rest, refl) s)
      (leaves.any told octets (rw is_area at may))
    where
      behind : (history : Entries) → Begins (value_of book).firm history → StandsFitFor (header_of book) octets history
          → LeavesBehind tells files c writer shelf octets
      behind history begins stands = record {
        history = history;
        stands = rw stays.0.header at stands;
        begins = begins_then (value_of c.book).firm (value_of book).firm history (grows told) begins;
        filed = λ tells_files held. subst (λ (f : F). HasFirstFiles (settings_in writer) history (files.files f))
            (sym is_shelf)
            (first_of_all files after (settings_in writer) history stays.1
            (files_stay (told_lists tells told) tells_files (items_of history)
            (items_begin stay (value_of book).firm history begins) held));
      }

  abbrev closed_by : IsSettled c.book book now no_caller → HasClosed tells c area
  closed_by settled = record {
    book = book;
    area_is = is_area;
    settled = rw moment at settled;
    leaves = leaves;
    stays = stays.0;
  }

  settles : (served : Result Unit Status) (ended : Status) → (served ≡ Ok tt → SettlesAs tells files c writer area shelf ended)
      → IfErr served (λ why. ended ≡ why) → HasSettledStream tells files c writer served ended area shelf
  settles served ended ok err = record {
    later = (rw is_area later.0, rw is_shelf later.1);
    size = ap (λ (a : A). tells.size a) is_area ∙ stays.0.size;
    keeps = holds;
    closed = λ calm. closed_by (closes (rw is_area at calm));
    ok = ok;
    err = err;
  }

  pub settles_ok : (served : Result Unit Status) (ended how : Status) (x : Unit) → served ≡ Ok x → ended ≡ how → SettlesAs tells files c writer area shelf how
      → HasSettledStream tells files c writer served ended area shelf
  settles_ok served ended how x is ends so = settles served ended (λ ok. rw ends so) (rw is tt)

  pub settles_err : (served : Result Unit Status) (ended why : Status) → served ≡ Err why → ended ≡ why
      → HasSettledStream tells files c writer served ended area shelf
  settles_err served ended why is ends = settles served ended (λ ok. absurd (ok_not_err tt why (sym ok ∙ is)))
      (rw is ends)

  pub settles_done : IsSettled c.book book now no_caller → (Told tells → HasTakenAll (value_of book).firm after)
      → HasEnded tells files c writer area shelf
  settles_done settled taken = record {
    closed = closed_by settled;
    after = after;
    shelf_is = is_shelf;
    settings = stays.1;
    taken = taken;
    files_stay = files_stay;
  }

  pub settles_area : disk.Rose (tells.faults (area_of c.book)) (tells.faults (area_of book))
      → SettlesAs tells files c writer area shelf (status.Store fault.Device)
  settles_area rose = inl (rw is_area rose)

  pub settles_shelf : disk.Rose (files.faults (shelf_of writer)) (files.faults (shelf_of after))
      → SettlesAs tells files c writer area shelf (status.Store fault.Device)
  settles_shelf rose = inr (rw is_shelf rose)
