-- The files of items are read back: each number that a header says of their records fits its field.
use Rattle.std.proofs.Common.{◌≡◌, ℕ, zero, suc, ◌+◌, ◌^◌, ◌<◌, ◌≤◌, ◌||◌, true, All, Contains, List, [], ◌∷◌, ◌++◌, length, map, slice_get, sum_by, Option, None, Some, Ok, refl, sym, ap, ◌∙◌, arith, ℤ, append-nil}
use Rattle.file_writer.proofs.Names.{All-head, All-tail, and_parts, AreLimits, cases_Bool, cases_lt, cdr_length, cdr_of, closed_first, closed_of, ClosedRun, ClosureReason, divided_from, Division, ends_after, ends_before, eqb-true, extension_octets, file_header, file_octets, Filed, FiledKind, FiledRecord, FilePlace, files_from, FileSettings, get_or_from_slice_get, in_run, IsFiledKind, IsFit, Item, joined, last_moment, le-leb, Limits, nat_tests, node_address, none-some, read_file, Record, record_at, record_of, Rule, run_length, run_limit_reached, run_records, run_with, runs_of, same_extension, same_kind, sealed_file, Settings, slice_get_within, still, stream_division, stream_files, stream_item, stream_items}
use Rattle.std.specs.Prelude.{is_some}
use Rattle.std.proofs.lemmas.List.Sums.{sum_by-append, sum_by-cons}
use Rattle.cdr_file.specs.CdrFile as cdr
use Rattle.cdr_file.specs.CdrHeader.{AreCdrs}
use Rattle.cdr_file.specs.ClosureReason.{code_of}
use Rattle.cdr_file.specs.FileHeader.{IsFileHeader, extends}
use Rattle.cdr_file.specs.Laws.{extends_one, in_profile-fits}
use Rattle.cdr_file.specs.Reading as reading
use Rattle.cdr_file.specs.Timestamp.{stamp_of}
use Rattle.file_rotate.specs.Items as stream
use Rattle.file_writer.specs.Reading.{IsStamped, ReadsAt}

-- ---- what a header says of a record

record IsSayable (offset : ℤ) (filed : Filed (List ℕ)) : Type 0 where
  kind : IsFiledKind filed.kind
  octets : filed.octets < 2 ^ 16
  stated : filed.octets ≡ length filed.payload
  stamp : stamp_of filed.moment offset < 2 ^ 32

abbrev IsItemSayable : ℤ → stream.Item (List ℕ) → Type 0
IsItemSayable offset (Record filed) = IsSayable offset filed
IsItemSayable offset _ = Unit {0}

abbrev AreItemsSayable : ℤ → List (stream.Item (List ℕ)) → Type 0
AreItemsSayable offset [] = Unit {0}
AreItemsSayable offset (i ∷ items) = IsItemSayable offset i × AreItemsSayable offset items

both_sayable : (offset : ℤ) (xs ys : List (stream.Item (List ℕ))) → AreItemsSayable offset xs
    → AreItemsSayable offset ys → AreItemsSayable offset (xs ++ ys)
both_sayable offset [] ys h k = k
both_sayable offset (x ∷ xs) ys h k = (h.0, both_sayable offset xs ys h.1 k)

item_sayable : (profile : ℕ) (rules : List Rule) (file : FileSettings) (s : ℕ) (first : Item) → IsFit first
    → IsStamped file first → AreItemsSayable file.offset (stream_item profile rules s first)
item_sayable profile rules file s first fit stamped = grind (arith, in_profile-fits)

items_sayable : (profile : ℕ) (rules : List Rule) (file : FileSettings) (s : ℕ) (items : List Item) → All IsFit items
    → All (IsStamped file) items → AreItemsSayable file.offset (stream_items profile rules s items)
items_sayable profile rules file s [] fit stamped = tt
items_sayable profile rules file s (first ∷ items) fit stamped =
    search (
      arith,
      both_sayable,
      item_sayable,
      All-head,
      (items_sayable profile rules file s items (All-tail IsFit first items fit)
          (All-tail (IsStamped file) first items stamped)),
      All-tail,
    )

-- ---- of which kind the records of runs are

-- each can be said, and is of this kind
abbrev AreOf : ℤ → FiledKind → List (Filed (List ℕ)) → Type 0
AreOf offset kind [] = Unit {0}
AreOf offset kind (filed ∷ run) = IsSayable offset filed × (filed.kind ≡ kind) × AreOf offset kind run

-- all of that of the first
abbrev AreSayable : ℤ → List (Filed (List ℕ)) → Type 0
AreSayable offset [] = Unit {0}
AreSayable offset (first ∷ later) = AreOf offset first.kind (first ∷ later)

-- an item that is a record is of that kind too
abbrev Joins : List (Filed (List ℕ)) → stream.Item (List ℕ) → Type 0
Joins (first ∷ later) (Record filed) = filed.kind ≡ first.kind
Joins _ _ = Unit {0}

of_more : (offset : ℤ) (kind : FiledKind) (run : List (Filed (List ℕ))) (filed : Filed (List ℕ)) → AreOf offset kind run
    → IsSayable offset filed → filed.kind ≡ kind → AreOf offset kind (run ++ filed ∷ [])
of_more offset kind [] filed are sayable is = (sayable, is, tt)
of_more offset kind (x ∷ run) filed are sayable is =
    (are.0, are.1, of_more offset kind run filed are.2 sayable is)

sayable_more : (offset : ℤ) (run : List (Filed (List ℕ))) (filed : Filed (List ℕ)) → AreSayable offset run
    → IsSayable offset filed → Joins run (Record filed) → AreSayable offset (run ++ filed ∷ [])
sayable_more offset run filed are sayable is = grind (arith, of_more)

extension_is : (extension other : Option ℕ) → same_extension extension other ≡ true → extension ≡ other
extension_is extension other e = grind (arith, nat_tests, eqb-true)

kind_is : (kind other : FiledKind) → same_kind kind other ≡ true → kind ≡ other
kind_is kind other e = search (arith, nat_tests, and_parts, eqb-true, extension_is)

-- a file that isn't closed before a record is one of records of its kind
joins : (limits : Limits) (run : List (Filed (List ℕ))) (i : stream.Item (List ℕ)) (before : Option ClosureReason)
    → ends_before limits run i ≡ before → Joins (still before run []) i
unfolding ends_before
joins limits run i before e = grind (arith, cases_Bool, kind_is)

-- ---- how long runs are

few_octets : (extension : Option ℕ) → length (extension_octets extension) ≤ 1
few_octets extension = grind arith

one_longer : (run : List (Filed (List ℕ))) (filed : Filed (List ℕ)) → run_length (run ++ filed ∷ [])
    ≤ run_length run + (59 + filed.octets)
one_longer [] filed = omega (arith, few_octets filed.kind.extension, sum_by-cons cdr_length filed [])
one_longer (x ∷ run) filed =
    omega (
      arith,
      few_octets filed.kind.extension,
      sum_by-append cdr_length (x ∷ run) (filed ∷ []),
      sum_by-cons cdr_length filed [],
    )

as_long : (offset : ℤ) (kind : FiledKind) (run : List (Filed (List ℕ))) → AreOf offset kind run
    → sum_by cdr.cdr_length (run_records run) ≡ sum_by cdr_length run
as_long offset kind [] all = refl
as_long offset kind (x ∷ run) all = search (arith, (as_long offset kind run all.2), sum_by-cons)

no_more : (run : List (Filed (List ℕ))) → length run ≤ sum_by cdr_length run
no_more [] = omega arith
no_more (x ∷ run) = omega (arith, no_more run, sum_by-cons cdr_length x run)

as_many : (run : List (Filed (List ℕ))) → length (run_records run) ≡ length run
as_many [] = refl
as_many (x ∷ run) = ap suc (as_many run)

-- ---- closed runs

record IsReadable (offset : ℤ) (run : List (Filed (List ℕ))) : Type 0 where
  long : run_length run < 2 ^ 32
  each : AreSayable offset run

abbrev AllReadable : ℤ → List (ClosedRun (List ℕ)) → Type 0
AllReadable offset [] = Unit {0}
AllReadable offset (c ∷ closed) = IsReadable offset c.run × AllReadable offset closed

with_first : (offset : ℤ) (reason : Option ClosureReason) (run : List (Filed (List ℕ))) (division : Division (List ℕ))
    → IsReadable offset run → AllReadable offset division.closed
    → AllReadable offset (closed_first reason run division).closed
with_first offset reason run division is all = grind arith

module _ (limits : Limits) (are : AreLimits limits) (offset : ℤ) where
  -- an open run hasn't reached the size
  record IsOpen (run : List (Filed (List ℕ))) : Type 0 where
    short : run_length run < limits.size
    each : AreSayable offset run

  none_open : IsOpen []
  none_open = record { short = are.size_from; each = tt }

  still_open : (reason : Option ClosureReason) (run : List (Filed (List ℕ))) → IsOpen run → IsOpen (still reason run [])
  still_open reason run is = grind (arith, none_open)

  readable : (run : List (Filed (List ℕ))) → IsOpen run → IsReadable offset run
  readable run is = record { long = omega (arith, is.short, are.size_to); each = is.each }

  -- a run with an item more, which may be closed after it
  with_item : (run : List (Filed (List ℕ))) (i : stream.Item (List ℕ)) → IsOpen run → IsItemSayable offset i
      → Joins run i → IsReadable offset (run ++ stream.record_in i)
  with_item run i is sayable joint = grind (arith, one_longer, sayable_more, append-nil, readable)

  short_of : (run : List (Filed (List ℕ))) → run_limit_reached limits run ≡ None → run_length run < limits.size
  unfolding run_limit_reached
  short_of run h = search (arith, nat_tests, cases_lt, le-leb)

  -- what is left open
  left_open : (run : List (Filed (List ℕ))) (i : stream.Item (List ℕ)) → IsOpen run → IsItemSayable offset i
      → Joins run i → (after : Option ClosureReason) → ends_after limits (run ++ stream.record_in i) i ≡ after
      → IsOpen (still after (run ++ stream.record_in i) [])
  unfolding ends_after
  left_open run i is sayable joint after e = grind (arith, none_open, short_of, sayable_more, append-nil)

  all_closed : (run : List (Filed (List ℕ))) → IsOpen run → (items : List (stream.Item (List ℕ)))
      → AreItemsSayable offset items → AllReadable offset (divided_from limits run items).closed
  all_closed run is [] all = tt
  all_closed run is (i ∷ items) all =
      let before : Option ClosureReason = ends_before limits run i in
      let at : List (Filed (List ℕ)) = still before run [] in
      let is_at : IsOpen at = still_open before run is in
      let joint : List (Filed (List ℕ)) = joined before run i in
      let is_joint : Joins at i = joins limits run i before refl in
      let after : Option ClosureReason = ends_after limits joint i in
      let rest : Division (List ℕ) = divided_from limits (still after joint []) items in
      with_first offset before run (closed_first after joint rest) (readable run is)
      (with_first offset after joint rest (with_item at i is_at all.0 is_joint)
      (all_closed (still after joint []) (left_open at i is_at all.0 is_joint after refl) items all.1))

-- ---- what is read of a run's file

address_is : (ip : ℕ) → length (node_address ip) ≡ 20
unfolding node_address
address_is ip = refl

reason_is : (r : ClosureReason) → code_of r < 256
reason_is r = grind arith

last_stamp : (offset : ℤ) (kind : FiledKind) (first : Filed (List ℕ)) (later : List (Filed (List ℕ)))
    → AreOf offset kind (first ∷ later) → stamp_of (last_moment (run_records (first ∷ later))) offset < 2 ^ 32
last_stamp offset kind first [] all = all.0.stamp
last_stamp offset kind first (next ∷ later) all = last_stamp offset kind next later all.2

header_fits : (settings : FileSettings) (first : Filed (List ℕ)) (later : List (Filed (List ℕ))) (sequence : ℕ)
    (r : ClosureReason) → IsReadable settings.offset (first ∷ later) → sequence < 2 ^ 32
    → IsFileHeader (file_header (run_records (first ∷ later)) sequence r settings)
header_fits settings first later sequence r is low =
    let long = as_long settings.offset first.kind (first ∷ later) is.each in
    record {
      address = address_is settings.address;
      file_length = omega (arith, is.long, long);
      header_length = omega (arith, few_octets first.kind.extension);
      high = (is.each.0.kind.release, is.each.0.kind.version);
      low = (is.each.0.kind.release, is.each.0.kind.version);
      stamps = (is.each.0.stamp, last_stamp settings.offset first.kind first later is.each);
      count = omega (arith, is.long, no_more (first ∷ later), as_many (first ∷ later));
      sequence = low;
      octets = (reason_is r, omega arith);
      high_extension = extends_one first.kind.release first.kind.extension is.each.0.kind.extension;
      low_extension = extends_one first.kind.release first.kind.extension is.each.0.kind.extension;
    }

cdrs_fit : (offset : ℤ) (kind : FiledKind) (run : List (Filed (List ℕ))) → AreOf offset kind run
    → AreCdrs (is_some kind.extension || is_some kind.extension) (map cdr_of (run_records run))
cdrs_fit offset kind [] all = tt
cdrs_fit offset kind (x ∷ run) all = search (arith, extends_one, (cdrs_fit offset kind run all.2))

cdr_at : (run : List (Filed (List ℕ))) (index : ℕ) (filed : Filed (List ℕ)) → slice_get run index ≡ Some filed
    → slice_get (map cdr_of (run_records run)) index ≡ Some (cdr_of (record_of filed))
cdr_at [] index filed h = let no : ⊥ = none-some filed h in absurd no
cdr_at (x ∷ run) zero filed h = search arith
cdr_at (x ∷ run) (suc index) filed h = cdr_at run index filed h

-- ---- the file with a number

record IsClosedAt (settings : FileSettings) (s q : ℕ) (closed : List (ClosedRun (List ℕ)))
    (left : List (Filed (List ℕ))) (before : ℕ) : Type 0 where
  c : ClosedRun (List ℕ)
  run_is : slice_get (map (λ (c : ClosedRun (List ℕ)). c.run) closed ++ left ∷ []) before ≡ Some c.run
  file_is : slice_get (files_from settings s q closed) before ≡ Some (sealed_file settings s (q + before) c)
  is : IsReadable settings.offset c.run

closed_at : (settings : FileSettings) (s q : ℕ) (closed : List (ClosedRun (List ℕ))) (left : List (Filed (List ℕ)))
    (before : ℕ) → before < length closed → AllReadable settings.offset closed
    → IsClosedAt settings s q closed left before
closed_at settings s q [] left before less all = let no : ⊥ = omega (arith, less) in absurd no
closed_at settings s q (x ∷ closed) left zero less all = search arith
closed_at settings s q (x ∷ closed) left (suc before) less all =
    search (arith, (closed_at settings s (q + 1) closed left before (omega (arith, less)) all.1))

kept_at : {X : Type 0} (xs : List X) (k : ℕ) (x : X) → slice_get xs k ≡ Some x → Contains xs x
kept_at xs k x h = (k, slice_get_within xs k x h, get_or_from_slice_get xs k x x h)

-- what is written is read back, as it is stated
abbrev pub ReadsBack : Type 0
ReadsBack = (run : List FiledRecord) (sequence : ℕ) (r : ClosureReason) (settings : FileSettings)
    → IsFileHeader (file_header run sequence r settings)
    → AreCdrs (extends (file_header run sequence r settings)) (read_file run sequence r settings).cdrs
    → reading.file_in (file_octets run sequence r settings) ≡ Ok (read_file run sequence r settings)

reads : ReadsBack → (settings : FileSettings) (run : List (Filed (List ℕ))) (sequence : ℕ) (r : ClosureReason)
    (index : ℕ) (filed : Filed (List ℕ)) → IsReadable settings.offset run → sequence < 2 ^ 32
    → slice_get run index ≡ Some filed
    → reading.file_in (file_octets (run_records run) sequence r settings) ≡ Ok
    (read_file (run_records run) sequence r settings)
reads law settings [] sequence r index filed is low h = let no : ⊥ = none-some filed h in absurd no
reads law settings (first ∷ later) sequence r index filed is low h = search (arith, header_fits, cdrs_fit)

pub read-there : ReadsBack → (settings : Settings) (items : List Item) (place : FilePlace) (filed : Filed (List ℕ))
    → AreLimits settings.limits → All IsFit items → All (IsStamped settings.file) items → place.sequence < 2 ^ 32
    → place.sequence ≤ closed_of settings place.stream items → record_at settings items place ≡ Some filed
    → ReadsAt (stream_files settings place.stream items) place filed
read-there law settings items place filed are fit stamped low closed h = by place.sequence refl h
  where
    s : ℕ
    s = place.stream

    division : Division (List ℕ)
    division = stream_division settings s items

    by : (sequence : ℕ) → place.sequence ≡ sequence
        → in_run place.index (run_with sequence (runs_of division)) ≡ Some filed
        → ReadsAt (stream_files settings s items) place filed
    by zero e there = let no : ⊥ = none-some filed there in absurd no
    by (suc before) e there =
        let at = closed_at settings.file s 1 division.closed division.left_open before (omega (arith, e, closed))
        (all_closed settings.limits are settings.file.offset [] (none_open settings.limits are settings.file.offset)
        (stream_items settings.profile settings.rules s items) (items_sayable settings.profile settings.rules settings.file s items fit stamped)) in
        let inside : slice_get at.c.run place.index ≡ Some filed =
        sym (ap (in_run place.index) at.run_is) ∙ there in
        let number : 1 + before ≡ place.sequence = omega (arith, e) in
        let fits : 1 + before < 2 ^ 32 = omega (arith, e, low) in
        record {
          file = sealed_file settings.file s (1 + before) at.c;
          kept = kept_at (stream_files settings s items) before (sealed_file settings.file s (1 + before) at.c)
              at.file_is;
          name = ap (λ (n : ℕ). record { stream = s; sequence = n }) number;
          read = read_file (run_records at.c.run) (1 + before) at.c.reason settings.file;
          reads = reads law settings.file at.c.run (1 + before) at.c.reason place.index filed at.is fits inside;
          there = cdr_at at.c.run place.index filed inside;
        }
