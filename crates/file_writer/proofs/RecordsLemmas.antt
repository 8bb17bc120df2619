-- Where records stand in runs, that more items leave them there, and that each record has one place.
use Rattle.std.proofs.Common.{◌≡◌, ℕ, ◌+◌, ◌-◌, ◌<◌, nat_lt, if◌then◌else◌, Bool, true, false, List, [], ◌∷◌, ◌++◌, length, map, take, slice_get, Option, None, Some, refl, sym, ap, ◌∙◌, arith, append_assoc, append-nil, length-append, inl, inr, ◌⊎◌, zero, suc, ◌≤◌, subst}
use Rattle.file_writer.proofs.Names.{cases_lt, cases_order, CdrKind, closed_first, ClosedRun, ClosureReason, Cuts, cuts_at, divided_from, Division, division_of, DivisionGoesOn, eq-eqb, Filed, FilePlace, goes_on, HasPlace, in_run, Item, joined, le-ltb, Limits, lt-ltb, ltb-false, map-append, nat_tests, none-some, nth_place, place_after, place_in, place_of_item, Record, record_at, record_if, record_in, records_of, records_to, Rule, run_after, run_with, runs_of, same_Some, Settings, slice_get_within, still, stream_division, stream_item, stream_items, stream_of, stream_record, Tag, take-append-le, with_cuts}
use Rattle.file_rotate.specs.Items as stream
use Rattle.gw_base.specs.declared.item.Item.TheVariants as item
use Rattle.file_writer.proofs.FilesLemmas.{division-append}
use Rattle.std.specs.List.{flat_map}

-- ---- elements of joined lists

slice_get-front : {X : Type 0} (xs ys : List X) (i : ℕ) → i < length xs → slice_get (xs ++ ys) i ≡ slice_get xs i
slice_get-front [] ys i h = absurd (omega arith)
slice_get-front (x ∷ xs) ys zero h = refl
slice_get-front (x ∷ xs) ys (suc i) h = slice_get-front xs ys i (omega (arith, h))

slice_get-after : {X : Type 0} (xs ys : List X) (i : ℕ) → length xs ≤ i → slice_get (xs ++ ys) i
    ≡ slice_get ys (i - length xs)
slice_get-after [] ys i h = ap (λ (j : ℕ). slice_get ys j) (omega arith)
slice_get-after (x ∷ xs) ys zero h = absurd (omega arith)
slice_get-after (x ∷ xs) ys (suc i) h = search (arith, (slice_get-after xs ys i (omega (arith, h))))

-- ---- places in runs

-- what follows another choice
if_later : {A : Type 0} (b : Bool) (x y z r : A) → (y ≡ r → z ≡ r) → (if b then x else y) ≡ r → (if b then x else z) ≡ r
if_later b x y z r f h = grind arith

-- a place behind runs that stay, where what follows them keeps its places
nth_place-front : {P : Type 0} (s q : ℕ) (xs ys zs : List (List (Filed P))) (n : ℕ) (p : FilePlace)
    → ((q n : ℕ) → nth_place s q ys n ≡ Some p → nth_place s q zs n ≡ Some p)
    → nth_place s q (xs ++ ys) n ≡ Some p → nth_place s q (xs ++ zs) n ≡ Some p
nth_place-front s q [] ys zs n p later h = later q n h
nth_place-front s q (x ∷ xs) ys zs n p later h =
    search (arith, if_later, (nth_place-front s (q + 1) xs ys zs (n - length x) p later))

-- a place in the last run, which grows
nth_place-last : {P : Type 0} (s q : ℕ) (run more : List (Filed P)) (later : List (List (Filed P))) (n : ℕ)
    (p : FilePlace)
    → nth_place s q (run ∷ []) n ≡ Some p → nth_place s q ((run ++ more) ∷ later) n ≡ Some p
nth_place-last s q run more later n p h = search (arith, nat_tests, cases_lt, lt-ltb, length-append, le-ltb)

-- ---- the first run of a division

-- the first of these runs begins with this one
abbrev Begins : {P : Type 0} → List (Filed P) → List (List (Filed P)) → Type 0
Begins {P} run runs = (rest : List (Filed P)) × (later : List (List (Filed P))) × (runs ≡ (run ++ rest) ∷ later)

begins_cut : {P : Type 0} (before after : Option ClosureReason) (run : List (Filed P)) (item : stream.Item P)
    (division : Division P)
    → Begins (still after (joined before run item) []) (runs_of division)
    → Begins run (runs_of (with_cuts (record { before = before; after = after }) run item division))
begins_cut (Some reason) after run item division h = (
  [],
  runs_of (closed_first after (joined (Some reason) run item) division),
  ap (λ (r : List (Filed _)). r ∷ runs_of (closed_first after (joined (Some reason) run item) division))
      (sym (append-nil run)),
)
begins_cut None (Some reason) run item division h = (record_in item, runs_of division, refl)
begins_cut None None run item division h =
    (record_in item ++ h.0, h.1, h.2 ∙ ap (λ (r : List (Filed _)). r ∷ h.1) (append_assoc run (record_in item) h.0))

begins : {P : Type 0} (limits : Limits) (run : List (Filed P)) (items : List (stream.Item P))
    → Begins run (runs_of (divided_from limits run items))
begins limits run [] = ([], [], ap (λ (r : List (Filed _)). r ∷ []) (sym (append-nil run)))
begins limits run (item ∷ items) =
    let cuts : Cuts = cuts_at limits run item in
    begins_cut cuts.before cuts.after run item (divided_from limits (run_after cuts run item) items)
    (begins limits (run_after cuts run item) items)

-- ---- more items

nth_place-goes_on : {P : Type 0} (limits : Limits) (s q : ℕ) (division : Division P) (items : List (stream.Item P))
    (n : ℕ) (p : FilePlace)
    → nth_place s q (runs_of division) n ≡ Some p → nth_place s q (runs_of (goes_on limits division items)) n ≡ Some p
nth_place-goes_on {P} limits s q division items n p h =
    let first = begins limits division.left_open items in
    let more : Division P = divided_from limits division.left_open items in
    let runs : List (ClosedRun P) → List (List (Filed P)) = λ closed. map (λ (c : ClosedRun P). c.run) closed in
    search (arith, map-append, append_assoc, nth_place-front, nth_place-last)

pub place-stays : DivisionGoesOn → (settings : Settings) (items more : List Item) (k : ℕ) (place : FilePlace)
    → place_in settings items k ≡ Some place → place_in settings (items ++ more) k ≡ Some place
place-stays law settings items more k place h = by (slice_get items k) refl h
  where
    by : (found : Option Item) → slice_get items k ≡ found → place_of_item settings items k found ≡ Some place
        → place_in settings (items ++ more) k ≡ Some place
    by (Some (item.Part kind tag octets moment)) e h =
        let s : ℕ = stream_of settings.rules tag kind.format in
        let within : k < length items = slice_get_within items k (item.Part kind tag octets moment) e in
        ap (λ (o : Option Item). place_of_item settings (items ++ more) k o)
        (slice_get-front items more k within ∙ e)
        ∙ ap (λ (front : List Item). place_after settings (items ++ more) s (records_to settings s front))
        (take-append-le k items more (omega (arith, within)))
        ∙ ap (λ (d : Division (List ℕ)). nth_place s 1 (runs_of d) (records_to settings s (take k items)))
        (division-append law settings s items more)
        ∙ nth_place-goes_on settings.limits s 1 (stream_division settings s items)
        (stream_items settings.profile settings.rules s more) (records_to settings s (take k items)) place h
    by _ e h = let no : ⊥ = none-some place h in absurd no

-- ---- all records of runs

abbrev pub all_of : {P : Type 0} → List (List (Filed P)) → List (Filed P)
all_of [] = []
all_of (run ∷ later) = run ++ all_of later

pub all_of-runs : {P : Type 0} (closed : List (ClosedRun P)) (left_open : List (Filed P))
    → all_of (map (λ (c : ClosedRun P). c.run) closed ++ left_open ∷ []) ≡ flat_map (λ (c : ClosedRun P). c.run) closed
    ++ left_open
all_of-runs [] left_open = append-nil left_open
all_of-runs (x ∷ xs) left_open = search (arith, (all_of-runs xs left_open), append_assoc)

-- the place of a record, and that it stands there
record Placed {P : Type 0} (s q : ℕ) (runs : List (List (Filed P))) (n : ℕ) : Type 0 where
  place : FilePlace
  found : nth_place s q runs n ≡ Some place
  stream : place.stream ≡ s
  from : q ≤ place.sequence
  there : in_run place.index (slice_get runs (place.sequence - q)) ≡ slice_get (all_of runs) n

placed : {P : Type 0} (s q : ℕ) (runs : List (List (Filed P))) (n : ℕ) → n < length (all_of runs) → Placed s q runs n
placed s q [] n h = absurd (omega arith)
placed s q (run ∷ later) n h =
    elim (cases_lt n (length run)) [
      | inl within ↦
          let none : q - q ≡ 0 = omega arith in
          record {
            place = record { stream = s; sequence = q; index = n };
            found = rw (lt-ltb n (length run) within) refl;
            stream = refl;
            from = omega arith;
            there = rw none (sym (slice_get-front run (all_of later) n within));
          }
      | inr past ↦
          let r = placed s (q + 1) later (n - length run) (omega (arith, past, h, length-append run (all_of later))) in
          let next : r.place.sequence - q ≡ suc (r.place.sequence - (q + 1)) = omega (arith, r.from) in
          record {
            place = r.place;
            found = rw (le-ltb n (length run) past) r.found;
            stream = r.stream;
            from = omega (arith, r.from);
            there = rw next (r.there ∙ sym (slice_get-after run (all_of later) n past));
          }
    ]

-- numbers of files count from 1
run_is : {P : Type 0} (sequence : ℕ) (runs : List (List (Filed P))) → 1 ≤ sequence
    → run_with sequence runs ≡ slice_get runs (sequence - 1)
run_is sequence runs h = grind arith

stands : {P : Type 0} (s : ℕ) (runs : List (List (Filed P))) (n : ℕ) (p : Placed s 1 runs n)
    → in_run p.place.index (run_with p.place.sequence runs) ≡ slice_get (all_of runs) n
stands s runs n p = ap (in_run p.place.index) (run_is p.place.sequence runs p.from) ∙ p.there

-- ---- one record at a place

of_test : {X : Type 0} (b : Bool) (x y : X) (rest : Option X) → (if b then Some x else rest) ≡ Some y
    → ((b ≡ true) × (x ≡ y)) ⊎ ((b ≡ false) × (rest ≡ Some y))
of_test b x y rest h = grind (arith, same_Some)

from_there : {P : Type 0} (s q : ℕ) (runs : List (List (Filed P))) (n : ℕ) (p : FilePlace)
    → nth_place s q runs n ≡ Some p → (s ≡ p.stream) × (q ≤ p.sequence)
from_there s q [] n p h = let no : ⊥ = none-some p h in absurd no
from_there s q (run ∷ later) n p h =
    elim (of_test (nat_lt n (length run)) _ p _ h) [
      | inl here ↦ search arith
      | inr past ↦ let r = from_there s (q + 1) later (n - length run) p past.1 in (r.0, omega (arith, r.1))
    ]

same_number : {P : Type 0} (s q : ℕ) (runs : List (List (Filed P))) (n m : ℕ) (p : FilePlace)
    → nth_place s q runs n ≡ Some p → nth_place s q runs m ≡ Some p → n ≡ m
same_number s q [] n m p h k = let no : ⊥ = none-some p h in absurd no
same_number s q (run ∷ later) n m p h k =
    elim (of_test (nat_lt n (length run)) _ p _ h) [
      | inl here ↦ search (arith, of_test, beyond)
      | inr past ↦
          elim (of_test (nat_lt m (length run)) _ p _ k) [
            | inl here ↦ absurd (omega (arith, ap (λ (at : FilePlace). at.sequence) here.1, (beyond n past.1).1))
            | inr there ↦
                search (
                  arith,
                  nat_tests,
                  (same_number s (q + 1) later (n - length run) (m - length run) p past.1 there.1),
                  ltb-false,
                )
          ]
    ]
  where
    beyond : (i : ℕ) → nth_place s (q + 1) later (i - length run) ≡ Some p → (s ≡ p.stream) × (q + 1 ≤ p.sequence)
    beyond i = from_there s (q + 1) later (i - length run) p

-- ---- records of items

records_of-append : {P : Type 0} (xs ys : List (stream.Item P)) → records_of (xs ++ ys) ≡ records_of xs ++ records_of ys
records_of-append [] ys = refl
records_of-append (x ∷ xs) ys =
    cc (records_of-append xs ys, append_assoc (record_in x) (records_of xs) (records_of ys))

pub length-records : {P : Type 0} (xs ys : List (stream.Item P)) → length (records_of (xs ++ ys))
    ≡ length (records_of xs) + length (records_of ys)
length-records xs ys = ap length (records_of-append xs ys) ∙ length-append (records_of xs) (records_of ys)

-- an item that is a record of a stream is the one after the records of the items before it
record_there : (profile : ℕ) (rules : List Rule) (s : ℕ) (items : List Item) (k : ℕ) (found : Item) (filed : Filed (List ℕ))
    → slice_get items k ≡ Some found
    → stream_item profile rules s found ≡ Record filed ∷ []
    → slice_get (records_of (stream_items profile rules s items)) (length (records_of (stream_items profile rules s (take k items))))
    ≡ Some filed
record_there profile rules s [] k found filed h is = let no : ⊥ = none-some found h in absurd no
record_there profile rules s (x ∷ xs) zero found filed h is = cc (same_Some x found h)
record_there profile rules s (x ∷ xs) (suc k) found filed h is =
    search (
      arith,
      length-records,
      records_of-append,
      slice_get-after,
      (record_there profile rules s xs k found filed h is),
    )

-- a record of a stream is one more for the items after it
one_more_after : (profile : ℕ) (rules : List Rule) (s : ℕ) (items : List Item) (k l : ℕ) (found : Item) (filed : Filed (List ℕ))
    → slice_get items k ≡ Some found
    → stream_item profile rules s found ≡ Record filed ∷ [] → k < l
    → length (records_of (stream_items profile rules s (take k items))) < length
    (records_of (stream_items profile rules s (take l items)))
one_more_after profile rules s [] k l found filed h is less = let no : ⊥ = none-some found h in absurd no
one_more_after profile rules s (x ∷ xs) k zero found filed h is less = absurd (omega arith)
one_more_after profile rules s (x ∷ xs) zero (suc l) found filed h is less = search (arith, same_Some, length-records)
one_more_after profile rules s (x ∷ xs) (suc k) (suc l) found filed h is less =
    search (arith, (one_more_after profile rules s xs k l found filed h is (omega (arith, less))), length-records)

-- ---- items that are records

-- the division of a stream has each of its records, in order
abbrev pub HasAll : Type 0
HasAll = (limits : Limits) (items : List (stream.Item (List ℕ)))
    → flat_map (λ (c : ClosedRun (List ℕ)). c.run) (division_of limits items).closed ++ (division_of limits items).left_open
    ≡ records_of items

-- a record of a stream stands at its place
stands_there : (settings : Settings) (items : List Item) (s n : ℕ) (filed : Filed (List ℕ))
    (p : Placed s 1 (runs_of (stream_division settings s items)) n)
    → slice_get (all_of (runs_of (stream_division settings s items))) n ≡ Some filed
    → record_at settings items p.place ≡ Some filed
stands_there settings items s n filed p is = rw p.stream (stands s (runs_of (stream_division settings s items)) n p ∙ is)

pub place-has : HasAll → (settings : Settings) (items : List Item) (k : ℕ) (kind : CdrKind) (tag : Option Tag)
    (octets : List ℕ) (moment : ℕ)
    → slice_get items k ≡ Some (item.Part kind tag octets moment) → HasPlace settings items k kind tag octets moment
place-has law settings items k kind tag octets moment h =
    let s : ℕ = stream_of settings.rules tag kind.format in
    let filed : Filed (List ℕ) = stream_record settings.profile kind octets moment in
    let is : stream_item settings.profile settings.rules s (item.Part kind tag octets moment) ≡ Record filed ∷ [] =
    ap (λ (b : Bool). record_if b filed) (eq-eqb s s refl) in
    let n : ℕ = records_to settings s (take k items) in
    let there : slice_get (records_of (stream_items settings.profile settings.rules s items)) n ≡ Some filed =
    record_there settings.profile settings.rules s items k (item.Part kind tag octets moment) filed h is in
    let division : Division (List ℕ) = stream_division settings s items in
    let all : all_of (runs_of division) ≡ records_of (stream_items settings.profile settings.rules s items) =
    search (arith, all_of-runs) in
    let p = placed s 1 (runs_of division) n
    (omega (
      arith,
      slice_get_within (records_of (stream_items settings.profile settings.rules s items)) n filed there,
      ap length all,
    )) in
    record {
      place = p.place;
      found = ap (λ (o : Option Item). place_of_item settings items k o) h ∙ p.found;
      stream = p.stream;
      there = stands_there settings items s n filed p
          (ap (λ (records : List (Filed (List ℕ))). slice_get records n) all ∙ there);
    }

-- an item with a place is a record of its stream
record IsThere (settings : Settings) (items : List Item) (k : ℕ) (p : FilePlace) : Type 0 where
  found : Item
  filed : Filed (List ℕ)
  is : slice_get items k ≡ Some found
  record_is : stream_item settings.profile settings.rules p.stream found ≡ Record filed ∷ []
  nth : nth_place p.stream 1 (runs_of (stream_division settings p.stream items))
      (records_to settings p.stream (take k items)) ≡ Some p

is_there : (settings : Settings) (items : List Item) (k : ℕ) (p : FilePlace) → place_in settings items k ≡ Some p
    → IsThere settings items k p
is_there settings items k p h = by (slice_get items k) refl h
  where
    by : (found : Option Item) → slice_get items k ≡ found → place_of_item settings items k found ≡ Some p
        → IsThere settings items k p
    by (Some (item.Part kind tag octets moment)) e h =
        let s : ℕ = stream_of settings.rules tag kind.format in
        let at : s ≡ p.stream = (from_there s 1 (runs_of (stream_division settings s items))
        (records_to settings s (take k items)) p h).0 in
        record {
          found = item.Part kind tag octets moment;
          filed = stream_record settings.profile kind octets moment;
          is = e;
          record_is = ap (λ (b : Bool). record_if b (stream_record settings.profile kind octets moment)) (eq-eqb s p.stream at);
          nth = subst (λ (t : ℕ). nth_place t 1 (runs_of (stream_division settings t items))
              (records_to settings t (take k items)) ≡ Some p) at h;
        }
    by found e h = let no : ⊥ = none-some p h in absurd no

pub place-only : (settings : Settings) (items : List Item) (k l : ℕ) (p : FilePlace)
    → place_in settings items k ≡ Some p → place_in settings items l ≡ Some p → k ≡ l
place-only settings items k l p h g =
    elim (cases_order k l) [
      | inl same ↦ same
      | inr (inl less) ↦ absurd (omega (arith, equal, later k l one less))
      | inr (inr more) ↦ absurd (omega (arith, equal, later l k other more))
    ]
  where
    one : IsThere settings items k p
    one = is_there settings items k p h

    other : IsThere settings items l p
    other = is_there settings items l p g

    equal : records_to settings p.stream (take k items) ≡ records_to settings p.stream (take l items)
    equal = search (arith, same_number, one, other)

    later : (i j : ℕ) (there : IsThere settings items i p) → i < j
        → records_to settings p.stream (take i items) < records_to settings p.stream (take j items)
    later i j there = one_more_after settings.profile settings.rules p.stream items i j there.found there.filed there.is there.record_is
