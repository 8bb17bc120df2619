-- The files that items close: their numbers, how many there are, and which are open.
use Rattle.std.proofs.Common.{◌≡◌, ◌∙◌, refl, sym, ap, ℕ, zero, suc, ◌+◌, ◌-◌, ◌≤◌, ◌==◌, ◌&&◌, Bool, false, cond, if◌then◌else◌, List, [], ◌∷◌, ◌++◌, length, take, Option, Some, None, option_map, slice_get, take_all, arith, append_assoc, append-nil, eq-eqb, ne_eqb, ◌<◌, ◌^◌, length-append, length-take}
use Rattle.replay_gateway.proofs.Names.{along, and_from, and_right, Close, closed_first, closed_of, ClosedRun, cuts_at, divided_from, Division, ends_after, ends_before, file_line, file_named, Filed, files_from, FileSettings, flat_map, flat_map-append, HistoryAct, HistoryEntry, in_stream, Item, items_by, items_by_act, items_of, joined, nat_tests, Rule, run_after, SealedFile, Settings, stream_division, stream_files, stream_item, stream_items, Tick}
use Rattle.cdr_shelf.specs.declared.file_name.FileName.{FileName}
use Rattle.cdr_file.specs.declared.closure.ClosureReason.{ClosureReason}
use Rattle.file_rotate.specs.Items as stream
use Rattle.file_rotate.specs.declared.limits.Limits.{Limits}
use Rattle.replay_gateway.proofs.WriterLemmas.{files_length}
use Rattle.replay_gateway.proofs.ListLemmas.{mapped_from, mapped_none, none_beyond, take_next}
use Rattle.file_writer.specs.Laws.{DivisionGoesOn}
use Rattle.gw_base.specs.EntryLaws.{is_close_due-append}
use Rattle.gw_base.specs.History.{due_after, is_close_due}
use Rattle.gw_base.specs.ListLaws.{by_last}
use Rattle.gw_base.specs.declared.history.HistoryAct.TheVariants as act

-- The files of a stream, by their numbers.

abbrev name_at : ℕ → ℕ → FileName
name_at s n = record { stream = s; sequence = n }

-- only the files of its stream may have a name
named_by : (s n : ℕ) (f : SealedFile) (kept : List SealedFile) {later : _} (b : Bool) → (f.name.stream == s) ≡ b →
    later ≡ file_named (name_at s n) kept →
    (if b && (f.name.sequence == n) then Some f.octets else later) ≡ file_named (name_at s n) (cond b (f ∷ kept) kept)
named_by s n f kept b is same = grind (arith, nat_tests)

pub named_in : (s n : ℕ) (files : List SealedFile) →
    file_named (name_at s n) files ≡ file_named (name_at s n) (in_stream s files)
named_in s n [] = refl
named_in s n (f ∷ files) = named_by s n f _ _ refl (named_in s n files)

-- the files of closed runs have their numbers
kth : (file : FileSettings) (s first k : ℕ) (closed : List (ClosedRun (List ℕ))) →
    file_named (name_at s (first + k)) (files_from file s first closed)
    ≡ option_map (λ (f : SealedFile). f.octets) (slice_get (files_from file s first closed) k)
kth file s first k [] = refl
kth file s first zero (run ∷ closed) =
    cc (and_from (s == s) (first == first + 0) (eq-eqb s s refl) (eq-eqb first (first + 0) (omega arith)))
kth file s first (suc k) (run ∷ closed) =
    let other : (first == first + suc k) ≡ false = ne_eqb first (first + suc k) (λ same. absurd (omega arith)) in
    let next : first + suc k ≡ first + 1 + k = omega arith in
    cc (and_right (s == s) (first == first + suc k) other, kth file s (first + 1) k closed)

kth_name : (file : FileSettings) (s first k : ℕ) (closed : List (ClosedRun (List ℕ))) {f : _} →
    slice_get (files_from file s first closed) k ≡ Some f → f.name ≡ name_at s (first + k)
kth_name file s first k [] is = cc
kth_name file s first zero (run ∷ closed) {f} is =
    let same : first ≡ first + 0 = omega arith in
    let name : name_at s first ≡ f.name = cc in
    cc
kth_name file s first (suc k) (run ∷ closed) is =
    let next : first + 1 + k ≡ first + suc k = omega arith in
    cc (kth_name file s (first + 1) k closed is)

-- the first files of a stream, so many
abbrev pub first_files : Settings → ℕ → ℕ → List Item → List SealedFile
first_files settings s n items = files_from settings.file s 1 (take n (stream_division settings s items).closed)

files_take : (file : FileSettings) (s first n : ℕ) (closed : List (ClosedRun (List ℕ))) →
    take n (files_from file s first closed) ≡ files_from file s first (take n closed)
files_take file s first (suc n) (run ∷ closed) = cc (files_take file s (first + 1) n closed)
files_take file s first _ _ = refl

pub first_are : (settings : Settings) (s n : ℕ) (items : List Item) →
    take n (stream_files settings s items) ≡ first_files settings s n items
first_are settings s n items = files_take _ s 1 n _

-- What is printed of a stream, file after file.

one_more : (place : ℕ) (xs : List SealedFile) (k : ℕ) {f : _} → slice_get xs k ≡ Some f →
    flat_map (file_line place) (take (suc k) xs) ≡ flat_map (file_line place) (take k xs) ++ file_line place f
one_more place xs k {f} is =
    ap (flat_map (file_line place)) (take_next xs k is) ∙ flat_map-append (file_line place) (take k xs) (f ∷ [])
    ∙ ap (λ l. flat_map (file_line place) (take k xs) ++ l) (append-nil (file_line place f))

module _ (file : FileSettings) (s place : ℕ) (closed : List (ClosedRun (List ℕ))) (sealed : List SealedFile)
    (are : in_stream s sealed ≡ files_from file s 1 closed) where
  abbrev all : List SealedFile
  all = files_from file s 1 closed

  there : (k : ℕ) → file_named (name_at s (1 + k)) sealed
      ≡ option_map (λ (f : SealedFile). f.octets) (slice_get all k)
  there k = cc (named_in s (1 + k) sealed, kth file s 1 k closed)

  -- one more file was printed
  pub line_more : (n : ℕ) {octets : _} (before : List ℕ) {middle after : _} → 1 ≤ n →
      Some octets ≡ file_named (name_at s n) sealed → middle ≡ before ++ flat_map (file_line place) (take (n - 1) all) →
      after ≡ middle ++ file_line place (record { name = name_at s n; octets = octets }) →
      after ≡ before ++ flat_map (file_line place) (take (n + 1 - 1) all)
  line_more n {octets} before some finds first later =
      let k = n - 1 in
      let number : n ≡ 1 + k = omega arith in
      let next : suc k ≡ n + 1 - 1 = omega arith in
      let found = mapped_from _ _ (finds ∙ ap (λ i. file_named (name_at s i) sealed) number ∙ there k) in
      let is : record { name = name_at s n; octets = octets } ≡ found.0 =
      λ i. record { name = (ap (name_at s) number ∙ sym (kth_name _ s 1 k _ found.1)) i; octets = found.2 i } in
      cc (
        append_assoc before (flat_map (file_line place) (take k all)) (file_line place found.0),
        one_more place all k found.1,
      )

  -- there is none any more
  pub lines_all : (n : ℕ) (before : List ℕ) {after : _} → 1 ≤ n → None ≡ file_named (name_at s n) sealed →
      after ≡ before ++ flat_map (file_line place) (take (n - 1) all) → after ≡ before ++ flat_map (file_line place) all
  lines_all n before some none are_so =
      let k = n - 1 in
      let number : n ≡ 1 + k = omega arith in
      let gone = mapped_none _ _ (none ∙ ap (λ i. file_named (name_at s i) sealed) number ∙ there k) in
      cc (take_all k all (none_beyond all k gone))

-- How many files items close: at most two for each item, so that an octet's four say the number of each.

first_more : {P : Type 0} (o : Option ClosureReason) (run : List (Filed P)) (d : Division P) →
    length (closed_first o run d).closed ≤ length d.closed + 1
first_more o run d = grind arith

-- an item closes a file before it, and one after it
closed_twice : {P : Type 0} (limits : Limits) (run : List (Filed P)) (items : List (stream.Item P)) →
    length (divided_from limits run items).closed ≤ length items + length items
closed_twice limits run [] = omega arith
closed_twice limits run (i ∷ items) =
    let cuts = cuts_at limits run i in
    let later = divided_from limits (run_after cuts run i) items in
    let then_more = closed_twice limits (run_after cuts run i) items in
    let after_more = first_more cuts.after (joined cuts.before run i) later in
    omega (arith, first_more cuts.before run (closed_first cuts.after (joined cuts.before run i) later))

-- a stream has no more items than there are
one_item : (profile : ℕ) (rules : List Rule) (s : ℕ) (i : Item) → length (stream_item profile rules s i) ≤ 1
one_item profile rules s i = grind (arith, nat_tests)

as_few : (profile : ℕ) (rules : List Rule) (s : ℕ) (items : List Item) →
    length (stream_items profile rules s items) ≤ length items
as_few profile rules s [] = omega arith
as_few profile rules s (i ∷ items) =
    let both = length-append (stream_item profile rules s i) (stream_items profile rules s items) in
    omega (arith, (one_item profile rules s i), (as_few profile rules s items))

-- fewer files than 2^32 are closed by fewer items than 2^31
pub numbers_fit : (settings : Settings) (s : ℕ) (items : List Item) → length items < 2 ^ 31 →
    closed_of settings s items < 4294967295
numbers_fit settings s items few =
    let twice = closed_twice settings.limits [] (stream_items settings.profile settings.rules s items) in
    omega (arith, (as_few settings.profile settings.rules s items))

-- so the numbers up to the greatest one are those of all sealed files
pub all_files : (settings : Settings) (s sealed : ℕ) (items : List Item) → sealed < 4294967295 →
    take (4294967295 - 1) (first_files settings s sealed items) ≡ take sealed (stream_files settings s items)
all_files settings s sealed items few =
    let closed = (stream_division settings s items).closed in
    take_all (4294967295 - 1) (first_files settings s sealed items)
    (omega (arith, (files_length settings.file s 1 (take sealed closed)), (length-take sealed closed)))
    ∙ sym (first_are settings s sealed items)

-- Where no Close is due, no record stands in a file that is open.

-- what a history tells a writer stays as it is when entries follow
abbrev pub ItemsStay : Type 0
ItemsStay = (h g : List HistoryEntry) → items_of (h ++ g) ≡ items_of h ++ along items_by h g

-- What is open after a mark.

after_close : (limits : Limits) (run : List (Filed (List ℕ))) (moment : ℕ) →
    (divided_from limits run (Close moment ∷ [])).left_open ≡ []
unfolding ends_before ends_after
after_close limits run moment = grind arith

after_tick : (limits : Limits) (moment : ℕ) →
    (divided_from {P = List ℕ} limits [] (Tick moment ∷ [])).left_open ≡ []
unfolding ends_before ends_after
after_tick limits moment = refl

module _ (goes : DivisionGoesOn) (stay : ItemsStay) (settings : Settings) (s : ℕ) where
  abbrev open_run : List Item → List (Filed (List ℕ))
  open_run items = (stream_division settings s items).left_open

  abbrev open_from : List (Filed (List ℕ)) → List Item → List (Filed (List ℕ))
  open_from run items = (divided_from settings.limits run (stream_items settings.profile settings.rules s items)).left_open

  open_then : (items more : List Item) → open_run (items ++ more) ≡ open_from (open_run items) more
  open_then items more =
      ap (λ xs. (divided_from settings.limits [] xs).left_open)
      (flat_map-append (stream_item settings.profile settings.rules s) items more)
      ∙ ap (λ (d : Division (List ℕ)). d.left_open)
      (goes settings.limits [] (stream_items settings.profile settings.rules s items)
      (stream_items settings.profile settings.rules s more))

  -- after one more entry
  by_act : (h : List HistoryEntry) {due : Bool} {run : List (Filed (List ℕ))} (moment : ℕ) (a : HistoryAct) →
      due_after due a ≡ false → (due ≡ false → run ≡ []) → open_from run (items_by_act h moment a ++ []) ≡ []
  by_act h moment (act.File node number packet) is shut = cc
  by_act h moment (act.Release node numbers) is shut = cc
  by_act h moment act.Tick is shut = cc (shut is, after_tick settings.limits moment)
  by_act h {run} moment act.Close is shut = after_close settings.limits run moment
  by_act h moment _ is shut = shut is

  pub shut_where_none_due : (h : List HistoryEntry) → is_close_due h ≡ false →
      (stream_division settings s (items_of h)).left_open ≡ []
  shut_where_none_due =
      by_last (λ (h : List HistoryEntry). is_close_due h ≡ false → open_run (items_of h) ≡ []) (λ none. refl)
      (λ h e before none. ap open_run (stay h (e ∷ [])) ∙ open_then (items_of h) (along items_by h (e ∷ []))
      ∙ by_act h e.moment _ (sym (is_close_due-append h e) ∙ none) before)
