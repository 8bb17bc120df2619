-- How many files items begin: more items begin no fewer, and a record goes to the last one that is begun. What is open
-- then, and what isn't.
use Rattle.std.proofs.Common.{◌≡◌, ◌↔◌, inl, inr, ℕ, ◌+◌, ◌<◌, ◌≤◌, max, nat_lt, if◌then◌else◌, Bool, IsTrue, List, [], ◌∷◌, ◌++◌, length, take, drop, Option, None, Some, refl, ap, ◌∙◌, arith, append_assoc}
use Rattle.file_writer.proofs.Names.{append-nil, AreAmong, AreOpenFiles, AreShut, begun_after, begun_of, cases_lt, closed_by, closed_of, ClosureReason, count_open, Cuts, cuts_at, divided_from, Division, DivisionGoesOn, Filed, FileName, Ghosts, GoesShut, greatest_in, IsOpenFile, IsOpenFileOf, Item, later_division, le-ltb, LeavesUnsealed, Limits, lt-ltb, Record, run_after, SealedFile, Settings, stream_count, stream_division, stream_item, stream_items, take-append-drop, UnsealedFile, with_cuts}
use Rattle.file_rotate.specs.Items as rotate
use Rattle.file_writer.proofs.FilesLemmas.{closed_of-append, left_open-append}

-- ---- more items

few_counted : (run : List (Filed (List ℕ))) → count_open run ≤ 1
few_counted run = grind arith

counted_more : (run more : List (Filed (List ℕ))) → count_open run ≤ count_open (run ++ more)
counted_more run more = grind arith

cut_counts : (before after : Option ClosureReason) (run : List (Filed (List ℕ))) (item : rotate.Item (List ℕ))
    (d : Division (List ℕ))
    → count_open (run_after (record { before = before; after = after }) run item)
    ≤ length d.closed + count_open d.left_open
    → count_open run ≤ length (with_cuts (record { before = before; after = after }) run item d).closed
    + count_open (with_cuts (record { before = before; after = after }) run item d).left_open
cut_counts before after run item d h = grind (arith, counted_more, few_counted)

some_stay : (limits : Limits) (run : List (Filed (List ℕ))) (items : List (rotate.Item (List ℕ)))
    → count_open run
    ≤ length (divided_from limits run items).closed + count_open (divided_from limits run items).left_open
some_stay limits run [] = omega arith
some_stay limits run (item ∷ items) =
    let cuts : Cuts = cuts_at limits run item in
    cut_counts cuts.before cuts.after run item (divided_from limits (run_after cuts run item) items)
    (some_stay limits (run_after cuts run item) items)

-- more items begin no fewer files
pub begun_grow : DivisionGoesOn → (settings : Settings) (closed : ℕ → ℕ) (items more : List Item) (s : ℕ)
    → begun_after settings closed items s ≤ begun_after settings closed (items ++ more) s
begun_grow law settings closed items more s =
    omega (
      arith,
      some_stay settings.limits (stream_division settings s items).left_open (stream_items settings.profile settings.rules s more),
      closed_of-append law settings s items more,
      ap count_open (left_open-append law settings s items more),
    )

pub among_fewer : DivisionGoesOn → (settings : Settings) (closed : ℕ → ℕ) (items more : List Item) (most : ℕ → ℕ)
    → AreAmong settings closed (items ++ more) most → AreAmong settings closed items most
among_fewer law settings closed items more most among s h =
    omega (arith, among s h, begun_grow law settings closed items more s)

-- ---- a record

abbrev one_record : Cuts → List (Filed (List ℕ)) → Filed (List ℕ) → Division (List ℕ)
one_record cuts run filed =
    with_cuts cuts run (Record filed) (record { closed = []; left_open = run_after cuts run (Record filed) })

number_by : (b a : Option ClosureReason) (run : List (Filed (List ℕ))) (filed : Filed (List ℕ)) (n m : ℕ)
    → closed_by b (n + m) + 1 ≡ n + (m + length (one_record (record { before = b; after = a }) run filed).closed
    + count_open (one_record (record { before = b; after = a }) run filed).left_open)
number_by None None run filed n m = omega (arith, one_open run)
  where
    one_open : (xs : List (Filed (List ℕ))) → count_open (xs ++ filed ∷ []) ≡ 1
    one_open [] = refl
    one_open (x ∷ xs) = refl
number_by None (Some a) run filed n m = omega arith
number_by (Some b) None run filed n m = omega arith
number_by (Some b) (Some a) run filed n m = omega arith

module _ (law : DivisionGoesOn) (settings : Settings) (closed : ℕ → ℕ) (before : List Item) (item : Item) (s : ℕ)
    (filed : Filed (List ℕ)) (here : stream_item settings.profile settings.rules s item ≡ Record filed ∷ []) where
  abbrev left : List (Filed (List ℕ))
  left = (stream_division settings s before).left_open

  division : later_division settings s before (item ∷ []) ≡ divided_from settings.limits left (Record filed ∷ [])
  division = search (arith, append-nil)

  -- the file that a record goes to is the last one that is begun then
  number_is : closed_by (cuts_at settings.limits left (Record filed)).before
      (closed s + closed_of settings s before) + 1
      ≡ begun_after settings closed (before ++ item ∷ []) s
  number_is =
      let cuts : Cuts = cuts_at settings.limits left (Record filed) in
      omega (
        arith,
        number_by cuts.before cuts.after left filed (closed s) (closed_of settings s before),
        closed_of-append law settings s before (item ∷ []),
        ap count_open (left_open-append law settings s before (item ∷ [])),
        ap (λ (d : Division (List ℕ)). length d.closed) division,
        ap (λ (d : Division (List ℕ)). count_open d.left_open) division,
      )

  pub number_within : (limits : Limits) (n : ℕ) → limits ≡ settings.limits → n ≡ closed s + closed_of settings s before
      → (most : ℕ) → begun_after settings closed (before ++ item ∷ []) s ≤ most
      → closed_by (cuts_at limits left (Record filed)).before n + 1 ≤ most
  number_within limits n e f most h = rw (e, f) (omega (arith, h, number_is))

-- ---- items one after the other

pub in_front : (before items : List Item) (n : ℕ) → before ++ items ≡ (before ++ take n items) ++ drop n items
in_front before items n = cc (take-append-drop n items, append_assoc before (take n items) (drop n items))

pub among_next : DivisionGoesOn → (settings : Settings) (closed : ℕ → ℕ) (before items : List Item) (i : ℕ) (x : Item)
    (most : ℕ → ℕ) → take (i + 1) items ≡ take i items ++ x ∷ []
    → AreAmong settings closed (before ++ take (i + 1) items) most
    → AreAmong settings closed ((before ++ take i items) ++ x ∷ []) most
among_next law settings closed before items i x most more among = search (arith, append_assoc)

-- ---- all streams

-- beyond the streams there are, no file is begun
abbrev most_of : (ℕ → ℕ) → ℕ → ℕ
most_of begun s = if nat_lt s stream_count then begun s else 0

inside : (begun : ℕ → ℕ) (s : ℕ) → s < stream_count → most_of begun s ≡ begun s
inside begun s h = ap (λ (b : Bool). if b then begun s else 0) (lt-ltb s stream_count h)

outside : (begun : ℕ → ℕ) (s : ℕ) → stream_count ≤ s → most_of begun s ≡ 0
outside begun s h = ap (λ (b : Bool). if b then begun s else 0) (le-ltb s stream_count h)

pub moves_shut : {A : Type 0} (tells : Ghosts A) (settings : Settings) (closed : ℕ → ℕ) (items : List Item)
    (old new : A) → GoesShut tells settings closed (λ s. items) old new
    → IsTrue tells.tells_files → IsTrue tells.tells_plan → (most : ℕ → ℕ) → AreAmong settings closed items most
    → AreShut most (tells.files old) (tells.unsealed old) → AreShut most (tells.files new) (tells.unsealed new)
moves_shut tells settings closed items old new goes files plan most among shut =
    let kept = goes files plan (most_of most) (λ s h. omega (arith, among s h, inside most s h))
    (λ s h. elim (cases_lt s stream_count) [
      | inl within ↦ shut.each s within (omega (arith, h, inside most s within))
      | inr far ↦ shut.beyond s far
    ]) in
    search (arith, inside, outside)

pub shut_grow : DivisionGoesOn → (settings : Settings) (closed : ℕ → ℕ) (items more : List Item)
    (files : List SealedFile) (unsealed : ℕ → Option UnsealedFile)
    → AreShut (begun_after settings closed items) files unsealed
    → AreShut (begun_after settings closed (items ++ more)) files unsealed
shut_grow law settings closed items more files unsealed shut = record {
  each = λ s h few. shut.each s h (omega (arith, few, begun_grow law settings closed items more s));
  beyond = shut.beyond;
}

-- ---- where no file is open

none_open : (name : FileName) (run : List (Filed (List ℕ))) (u : Option UnsealedFile) → count_open run ≡ 0
    → IsOpenFile name run u ↔ (u ≡ None)
none_open name run u e = grind arith

pub open_none : (settings : Settings) (closed : ℕ → ℕ) (items : List Item) (s : ℕ) (u : Option UnsealedFile)
    → begun_of settings s items ≤ closed_of settings s items → IsOpenFileOf settings closed items s u ↔ (u ≡ None)
open_none settings closed items s u few = search (arith, none_open)

pub open_shut : (settings : Settings) (closed : ℕ → ℕ) (items : List Item) (files : List SealedFile)
    (unsealed : ℕ → Option UnsealedFile)
    → ((s : ℕ) → s < stream_count → greatest_in s files ≤ closed s + closed_of settings s items)
    → AreOpenFiles settings closed items unsealed → AreShut (begun_after settings closed items) files unsealed
open_shut settings closed items files unsealed most are = search (arith, open_none, are.each)

pub shut_open : (settings : Settings) (closed sealed : ℕ → ℕ) (items : List Item) (files : List SealedFile)
    (old new : ℕ → Option UnsealedFile)
    → ((s : ℕ) → s < stream_count
    → (closed s ≤ sealed s) × (sealed s ≤ closed s + closed_of settings s items) × (sealed s ≡ greatest_in s files))
    → AreShut (begun_after settings closed items) files old → LeavesUnsealed settings closed sealed [] items old new
    → AreOpenFiles settings closed items new
shut_open settings closed sealed items files old new firsts shut leaves =
    search (arith, cases_lt, open_none, leaves.stays, shut.each, shut.beyond)

pub open_go_on : DivisionGoesOn → (settings : Settings) (closed sealed : ℕ → ℕ) (before front rest : List Item)
    (old new : ℕ → Option UnsealedFile)
    → ((s : ℕ) → s < stream_count → sealed s ≤ closed s + closed_of settings s (before ++ front))
    → AreOpenFiles settings closed (before ++ front) old
    → LeavesUnsealed settings closed sealed before ((before ++ front) ++ rest) old new
    → AreOpenFiles settings closed ((before ++ front) ++ rest) new
open_go_on law settings closed sealed before front rest old new few are leaves = record {
  each = λ s h.
      let mid : List Item = before ++ front in
      let first = closed_of-append law settings s before front in
      let second = closed_of-append law settings s mid rest in
      let grown = begun_grow law settings closed mid rest s in
      elim (cases_lt (max (closed s + closed_of settings s before) (sealed s))
      (closed s + begun_of settings s (mid ++ rest))) [
        | inl wrote ↦ leaves.wrote s h wrote
        | inr none ↦
            (open_none settings closed (mid ++ rest) s (new s) (omega (arith, none, first, second, few s h))).1
            (leaves.stays s h none
            ∙ (open_none settings closed mid s (old s) (omega (arith, none, first, grown, few s h))).0 (are.each s h))
      ];
  beyond = λ s h. leaves.beyond s h ∙ are.beyond s h;
}
