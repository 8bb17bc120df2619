-- Where the files have a record, it is that of an item with this place.
use Rattle.std.proofs.Common.{◌≡◌, ℕ, zero, suc, ◌+◌, ◌-◌, ◌<◌, ◌==◌, Bool, true, List, [], ◌∷◌, length, take, slice_get, Option, Some, refl, ap, ◌∙◌, arith, length-append, inl, inr, ◌≤◌}
use Rattle.file_writer.proofs.Names.{cases_lt, CdrKind, eqb-true, Filed, FilePlace, in_run, Item, le-ltb, lt-ltb, none-some, nth_place, place_in, record_at, record_if, records_of, Rule, run_with, runs_of, Settings, slice_get_within, stream_division, stream_item, stream_items, stream_of, stream_record, Tag}
use Rattle.gw_base.specs.declared.item.Item.TheVariants as item
use Rattle.file_writer.proofs.RecordsLemmas.{HasAll, all_of, all_of-runs, length-records}

-- ---- places of runs

abbrev place : ℕ → ℕ → ℕ → FilePlace
place s sequence index = record { stream = s; sequence = sequence; index = index }

-- the record that stands so far in the run behind so many others is one of all records of the runs, and has its place
record IsNth {P : Type 0} (s q : ℕ) (runs : List (List (Filed P))) (before index : ℕ) : Type 0 where
  n : ℕ
  within : n < length (all_of runs)
  found : nth_place s q runs n ≡ Some (place s (q + before) index)

is_nth : {P : Type 0} (s q : ℕ) (runs : List (List (Filed P))) (before index : ℕ) (filed : Filed P)
    → in_run index (slice_get runs before) ≡ Some filed → IsNth s q runs before index
is_nth s q [] before index filed h = let no : ⊥ = none-some filed h in absurd no
is_nth s q (run ∷ later) zero index filed h =
    let less : index < length run = slice_get_within run index filed h in
    record {
      n = index;
      within = omega (arith, less, length-append run (all_of later));
      found = rw (lt-ltb index (length run) less) (ap (λ (sequence : ℕ). Some (place s sequence index)) (omega arith));
    }
is_nth s q (run ∷ later) (suc before) index filed h =
    let rest = is_nth s (q + 1) later before index filed h in
    let left : length run + rest.n - length run ≡ rest.n = omega arith in
    record {
      n = length run + rest.n;
      within = omega (arith, rest.within, length-append run (all_of later));
      found = rw (le-ltb (length run + rest.n) (length run) (omega arith), left)
          (rest.found ∙ ap (λ (sequence : ℕ). Some (place s sequence index)) (omega arith));
    }

-- ---- the items of a stream's records

-- an item is the record of a stream before which it has so many
record IsItem (profile : ℕ) (rules : List Rule) (s : ℕ) (items : List Item) (n : ℕ) : Type 0 where
  k : ℕ
  kind : CdrKind
  tag : Option Tag
  octets : List ℕ
  moment : ℕ
  is : slice_get items k ≡ Some (item.Part kind tag octets moment)
  stream : stream_of rules tag kind.format ≡ s
  before : length (records_of (stream_items profile rules s (take k items))) ≡ n

-- so it is where an item stands in front that has so many records of the stream
one_later : (profile : ℕ) (rules : List Rule) (s : ℕ) (first : Item) (items : List Item) (n m : ℕ)
    → length (records_of (stream_item profile rules s first)) + n ≡ m → IsItem profile rules s items n
    → IsItem profile rules s (first ∷ items) m
one_later profile rules s first items n m more there = record {
  k = suc there.k;
  kind = there.kind;
  tag = there.tag;
  octets = there.octets;
  moment = there.moment;
  is = there.is;
  stream = there.stream;
  before = search (arith, length-records);
}

one_if : (b : Bool) (filed : Filed (List ℕ)) → length (records_of (record_if b filed)) ≤ 1
one_if b filed = grind arith

at_most_one : (profile : ℕ) (rules : List Rule) (s : ℕ) (first : Item)
    → length (records_of (stream_item profile rules s first)) ≤ 1
at_most_one profile rules s first = grind (arith, one_if)

passes : (b : Bool) (filed : Filed (List ℕ)) → 0 < length (records_of (record_if b filed)) → b ≡ true
passes b filed h = grind arith

the_first : (profile : ℕ) (rules : List Rule) (s : ℕ) (first : Item) (items : List Item)
    → 0 < length (records_of (stream_item profile rules s first)) → IsItem profile rules s (first ∷ items) 0
the_first profile rules s (item.Part kind tag octets moment) items h = record {
  k = 0;
  kind = kind;
  tag = tag;
  octets = octets;
  moment = moment;
  is = refl;
  stream = eqb-true (stream_of rules tag kind.format) s
      (passes (stream_of rules tag kind.format == s) (stream_record profile kind octets moment) h);
  before = refl;
}
the_first profile rules s _ items h = absurd (omega (arith, h))

is_item : (profile : ℕ) (rules : List Rule) (s : ℕ) (items : List Item) (n : ℕ)
    → n < length (records_of (stream_items profile rules s items)) → IsItem profile rules s items n
is_item profile rules s [] n h = absurd (omega (arith, h))
is_item profile rules s (first ∷ items) n h =
    let m : ℕ = length (records_of (stream_item profile rules s first)) in
    elim (cases_lt n m) [
      | inl less ↦
          let none : n ≡ 0 = omega (arith, less, at_most_one profile rules s first) in
          rw none (the_first profile rules s first items (omega (arith, less)))
      | inr past ↦
          one_later profile rules s first items (n - m) n (omega (arith, past))
          (is_item profile rules s items (n - m) (omega (
            arith,
            h,
            past,
            length-records (stream_item profile rules s first) (stream_items profile rules s items),
          )))
    ]

-- ---- the item at a place

-- its place is that of the record
place_is : (settings : Settings) (items : List Item) (s before index sequence : ℕ)
    (nth : IsNth s 1 (runs_of (stream_division settings s items)) before index)
    (found : IsItem settings.profile settings.rules s items nth.n) → 1 + before ≡ sequence
    → place_in settings items found.k ≡ Some (place s sequence index)
place_is settings items s before index sequence nth found number =
    rw (found.is, found.stream, found.before) (nth.found ∙ ap (λ (q : ℕ). Some (place s q index)) number)

pub item-there : HasAll → (settings : Settings) (items : List Item) (at : FilePlace) (filed : Filed (List ℕ))
    → record_at settings items at ≡ Some filed → (k : ℕ) × (place_in settings items k ≡ Some at)
item-there law settings items at filed h = by at.sequence refl h
  where
    s : ℕ
    s = at.stream

    runs : List (List (Filed (List ℕ)))
    runs = runs_of (stream_division settings s items)

    all : length (all_of runs) ≡ length (records_of (stream_items settings.profile settings.rules s items))
    all = search (arith, all_of-runs, s)

    by : (sequence : ℕ) → at.sequence ≡ sequence → in_run at.index (run_with sequence runs) ≡ Some filed
        → (k : ℕ) × (place_in settings items k ≡ Some at)
    by zero e there = let no : ⊥ = none-some filed there in absurd no
    by (suc before) e there =
        let nth = is_nth s 1 runs before at.index filed there in
        let found = is_item settings.profile settings.rules s items nth.n (omega (arith, nth.within, all)) in
        (found.k, place_is settings items s before at.index at.sequence nth found (omega (arith, e)))
