-- What a gateway hands back that was opened, served and was settled.
use Rattle.std.proofs.Common.{◌≡◌, ℕ, ◌+◌, ◌-◌, ◌<◌, ◌≤◌, max, Bool, true, false, List, [], ◌++◌, length, take, refl, sym, ap, subst, ◌∙◌, true≢false, arith}
use Rattle.cgf_service.proofs.Names.{address_in, append-nil, area_of, AreaLaws, AreOf, AreShut, base, Begins, Book, BookValue, closed_of, facts_of, files_at, FileSettings, GoesOnUntil, HasAllFiles, HasFirstFiles, HasGrown, HasLine, HasReplied, HasServed, HasServedAt, header_at, header_of, history_of, HistoryEntry, is_broken, is_close_due, IsOpened, IsSettled, IsTrue, Item, items_by, items_of, joined, later_files, LeavesClosed, LeavesFit, LinksState, moment_of, no_caller, sealed_in, Service, Serving, Settings, settings_in, Setup, shelf_of, StandsFitFor, Stays, stream_count, stream_division, stream_files, taken_of, tells_lists, Told, torn_of, value_of, Writer}
use Rattle.area_disk.specs.declared.area.Area as areas
use Rattle.cdr_shelf.specs.declared.shelf.Shelf as shelves
use Rattle.gateway_answer.specs.Filed.{along}
use Rattle.node_session.specs.Writing as writing
use Rattle.cgf_service.proofs.InputLemmas.{length-files_from}
use Rattle.cgf_service.proofs.GrownLemmas as grow
use Rattle.cgf_service.proofs.KeptLemmas.{replies_rest, told_lists}
use Rattle.cgf_service.proofs.SealedLemmas.{all_sealed, begun_on}
use Rattle.cgf_service.proofs.ServiceLemmas.{ReplyLater, StaysInTurn}

-- the facts of a book that isn't broken have its firm entries, and then those that wait
joined_whole : (v : BookValue) → v.is_broken ≡ false → history_of v ++ torn_of v ≡ v.firm ++ v.rest
joined_whole v whole = rw whole (append-nil (v.firm ++ v.rest))

-- the settings of the files
pub settings_at : (of : Serving) (setup : Setup) (by : FileSettings) → AreOf setup by → ◌≡◌ {A = Settings} (record {
  rules = by.rules;
  limits = by.settings.limits;
  profile = by.settings.profile;
  file = record { offset = by.settings.offset; address = of.ip };
}) (files_at of setup)
settings_at of setup by are = λ i. record {
  rules = sym are.rules i;
  limits = sym are.set.limits i;
  profile = sym are.set.profile i;
  file = record { offset = sym are.set.offset i; address = of.ip };
}

-- What its items close stays as it is when more follow.
abbrev pub ItemsStay : Type 0
ItemsStay = (h g : List HistoryEntry) → items_of (h ++ g) ≡ items_of h ++ along items_by h g

abbrev pub FilesGrow : Type 0
FilesGrow = (settings : Settings) (s : ℕ) (items more : List Item) → stream_files settings s (items ++ more)
    ≡ stream_files settings s items ++ later_files settings s items more

pub items_begin : ItemsStay → (h g : List HistoryEntry) → Begins h g → writing.Begins (items_of h) (items_of g)
items_begin stay h g b = (along items_by h b.0, ap (λ (l : List HistoryEntry). items_of l) b.1 ∙ stay h b.0)

-- A writer that has to recover holds the first ones of the files of a history, where its shelf has those of a front of
-- it.
pub first_holds : {F : Type 0} (files : shelves.Ghosts F) → ItemsStay → FilesGrow → (settings : Settings)
    (start history : List HistoryEntry)
    (shelf : F) (writer : Writer F files) → is_broken writer ≡ true → shelf_of writer ≡ shelf → settings_in writer ≡
    settings
    → Begins start history → HasFirstFiles settings start (files.files shelf) → writing.HoldsFilesOf (items_of history)
    writer
first_holds {F = F} files stay files_grow settings start history shelf writer fresh on by front first = record {
  begun = λ broken. subst (λ (s : Settings). HasFirstFiles s history (files.files (shelf_of writer))) (sym by)
      (subst (λ (f : F). HasFirstFiles settings history (files.files f)) (sym on) begun);
  held = λ whole. absurd (true≢false (sym fresh ∙ whole));
}
  where
    items_front : writing.Begins (items_of start) (items_of history)
    items_front = items_begin stay start history front

    begun : HasFirstFiles settings history (files.files shelf)
    begun = rw items_front.1 (begun_on files_grow settings (items_of start) items_front.0 (files.files shelf) first)

-- Whether it has to recover or not, a writer that holds the files of items has the first ones of them.
pub first_of_all : {F : Type 0} (files : shelves.Ghosts F) (writer : Writer F files) (settings : Settings)
    (history : List HistoryEntry)
    → settings_in writer ≡ settings → writing.HoldsFilesOf (items_of history) writer
    → HasFirstFiles settings history (files.files (shelf_of writer))
first_of_all files writer settings history set holds =
    subst (λ (s : Settings). HasFirstFiles s history (files.files (shelf_of writer))) set (by (is_broken writer) refl)
  where
    by : (b : Bool) → is_broken writer ≡ b → HasFirstFiles (settings_in writer) history (files.files (shelf_of writer))
    by true is = holds.begun is
    by false is = λ s lt. (
      max (sealed_in writer s) (writing.none_closed s + closed_of (settings_in writer) s
          (take (taken_of writer) (items_of history))) - writing.none_closed s,
      holds.held is s lt,
    )

-- It was settled: its journal.
module _ {A F : Type 0} (tells : areas.Ghosts A) (files : shelves.Ghosts F) (of : Serving) (told : Told tells)
    (laws : AreaLaws tells) (shuts : (h : List HistoryEntry) → is_close_due h ≡ false → AreShut (items_of h))
    (in_turn : StaysInTurn)
    (later_reply : ReplyLater) (area : A) (book book' book'' : Book A tells) (writer writer' : Writer F files)
    (links links' : LinksState) (clock clock' : ℕ) (service : Service) (open_time : ℕ)
    (sized : tells.size (area_of book) ≡ tells.size area) (opens : IsOpened (header_at tells area of.ip) area open_time book)
    (serves : HasServedAt tells files of book book' writer writer' links links' clock clock' service)
    (stays : Stays book' book'') (later : tells.faults (area_of book') ≤ tells.faults (area_of book''))
    (settled : IsSettled book' book'' (moment_of service.last) no_caller) (leaves : LeavesFit book'') where
  abbrev lists : tells_lists tells ≡ true
  lists = told_lists tells told

  abbrev history : List HistoryEntry
  history = (value_of book'').firm

  abbrev start : List HistoryEntry
  start = (opens.found told).0

  is_fresh : grow.IsFresh start (value_of book)
  is_fresh = rw (opens.found told).2 (grow.opened_is_fresh (tells.size area) start)

  header_is : header_of book'' ≡ header_at tells area of.ip
  header_is = stays.header ∙ serves.stays.name ∙ opens.named

  -- after any crash, and by a read
  leaves_whole : (c : List ℕ) → tells.may_leave (area_of book'') c → StandsFitFor (header_at tells area of.ip) c history
  leaves_whole c may = rw header_is at (leaves.whole told settled.goes_on c may)

  until_last : GoesOnUntil (links'.received (address_in of)) (facts_of book) (facts_of book') service.last
  until_last = serves.goes_on lists

  list_is : joined (facts_of book) ≡ start ++ (value_of book).rest
  list_is = joined_whole (value_of book) is_fresh.whole ∙ ap (λ (l : List HistoryEntry). l ++ (value_of book).rest) is_fresh.firm

  has_grown : HasGrown (tells.size area) (links'.received (address_in of)) start history
  has_grown = grow.grown (tells.size area) (links'.received (address_in of)) start (value_of book).rest (facts_of book) (facts_of book')
      is_fresh.firm list_is sized is_fresh.rest service.last until_last in_turn settled.drops history
      (settled.firm told)

  pub firm_begins : Begins (value_of book').firm history
  firm_begins = grow.firm_begins (tells.size area) (links'.received (address_in of)) start (value_of book).rest
      (facts_of book) (facts_of book')
      is_fresh.firm list_is sized is_fresh.rest service.last until_last settled.drops (moment_of service.last) history
      (settled.firm told)

  replies : HasReplied (tells.size area) history (tells.faults area) (tells.faults (area_of book'')) (address_in of) links links'
  replies = replies_rest tells files of told area book book' book'' writer writer' links links' clock clock' service open_time sized opens serves later
      later_reply history firm_begins

  pub leaves_closed : LeavesClosed tells of area (area_of book'') links links' history
  leaves_closed = record {
    start = start;
    found = (opens.found told).1;
    stands = leaves_whole (tells.octets (area_of book'')) (laws.holds (area_of book''));
    crash = leaves_whole;
    grown = has_grown;
    replies = replies;
    shut = shuts history (ap is_close_due (settled.firm told)
        ∙ grow.none_due_behind (base settled.drops (facts_of book')) (moment_of service.last) no_caller);
  }

-- And its files.
module _ {A F : Type 0} (tells : areas.Ghosts A) (files : shelves.Ghosts F) (of : Serving) (setup : Setup)
    (told : Told tells)
    (stay : ItemsStay) (files_grow : FilesGrow) (area : A) (shelf : F) (book book' book'' : Book A tells)
    (writer writer' writer'' : Writer F files) (links links' : LinksState) (clock clock' : ℕ) (service : Service)
    (line : List ℕ)
    (fresh : is_broken writer ≡ true) (on : shelf_of writer ≡ shelf) (by : settings_in writer ≡ files_at of setup)
    (serves : HasServedAt tells files of book book' writer writer' links links' clock clock' service)
    (set : settings_in writer'' ≡ settings_in writer')
    (keeps : writing.KeepsFiles files (value_of book'').firm writer' writer'')
    (has : HasLine tells files service book' book'' writer'' line)
    (closed : LeavesClosed tells of area (area_of book'') links links' (value_of book'').firm)
    (begins : Begins (value_of book').firm (value_of book'').firm) where
  abbrev whole : List HistoryEntry
  whole = (value_of book'').firm

  settings_are : settings_in writer'' ≡ files_at of setup
  settings_are = set ∙ serves.kept.settings ∙ by

  sealed : IsTrue files.tells_files → HasFirstFiles (files_at of setup) closed.start (files.files shelf)
      → HasAllFiles (files_at of setup) whole (files.files (shelf_of writer''))
  sealed tells_files first = subst (λ (settings : Settings). HasAllFiles settings whole
      (files.files (shelf_of writer''))) settings_are
      (all_sealed files writer'' (items_of whole) (has.taken told).ready (has.taken told).count holds counted)
    where
      front : Begins closed.start whole
      front = grow.grown_begins (tells.size area) (links'.received (address_in of)) closed.start whole closed.grown

      holds : writing.HoldsFilesOf (items_of whole) writer''
      holds = keeps tells_files (items_of whole) ([], sym (append-nil (items_of whole)))
          (serves.kept.files (told_lists tells told) tells_files (items_of whole)
          (items_begin stay (value_of book').firm whole begins)
          (first_holds files stay files_grow (files_at of setup) closed.start whole shelf writer fresh on by front
          first))

      counted : (s : ℕ) → s < stream_count
          → length (stream_files (settings_in writer'') s (items_of whole)) ≤ closed_of (settings_in writer'') s
          (items_of whole)
      counted s lt =
          omega (
            arith,
            length-files_from (settings_in writer'').file s 1
                (stream_division (settings_in writer'') s (items_of whole)).closed,
          )

  pub has_served : HasServed tells files of setup area (area_of book'') shelf (shelf_of writer'') links links' whole
  has_served = record { closed = closed; sealed = sealed }
