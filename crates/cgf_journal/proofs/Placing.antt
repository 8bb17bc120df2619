-- The places of entries, and what stands at them.
use Rattle.std.proofs.Common.{◌≡◌, inl, inr, ℕ, zero, suc, ◌+◌, ◌-◌, ◌<◌, ◌≤◌, List, [], ◌∷◌, ◌++◌, length, take, drop, Some, refl, sym, ◌∙◌, ap, subst, arith, length-append, append_assoc, true, false, rules}
use Rattle.cgf_journal.proofs.Names.{All, All-cons, All-head, All-nil, All-tail, append-nil, batches_spelled, cases_lt, Draft, drop-append-le, end_of, EndsBy, entries_in, entries_of, entry_length, Founded, Founding, Front, header_length, HistoryEntry, is_founded, IsContent, KeepsOr, length-spelled, length-take, length_of_spelling, LiesAt, Place, places_behind, places_from, slice_get, spelled, spelling, Stands, take_at, taken}
use Rattle.std.proofs.Math.Seq.{drop-append-add}
use Rattle.gate_journal.specs.Places.{part_is, small_among}

abbrev place_of : ℕ → HistoryEntry → Place
place_of at e = record { at = at; length = entry_length e }

pub length-places_from : (at : ℕ) (h : List HistoryEntry) → length (places_from at h) ≡ length h
length-places_from at [] = refl
length-places_from at (e ∷ h) = ap suc (length-places_from (at + entry_length e) h)

pub places_from-append : (at : ℕ) (h g : List HistoryEntry) → places_from at (h ++ g) ≡ places_from at h ++ places_from (at + length (spelled h)) g
places_from-append at [] g = ap (λ (k : ℕ). places_from k g) (omega arith)
places_from-append at (e ∷ h) g =
    let behind : at + entry_length e + length (spelled h) ≡ at + length (spelled (e ∷ h)) = omega (arith, length-append (spelling e) (spelled h), length_of_spelling e) in
    ap (λ (ps : List Place). place_of at e ∷ ps)
    (places_from-append (at + entry_length e) h g ∙ ap (λ (k : ℕ). places_from (at + entry_length e) h ++ places_from k g) behind)

-- the places end where the octets do
pub places_from-ends : (at : ℕ) (h : List HistoryEntry) (end : ℕ) → at + length (spelled h) ≤ end → All (EndsBy end) (places_from at h)
places_from-ends at [] end le = All-nil (EndsBy end)
places_from-ends at (e ∷ h) end le =
    let more = length-append (spelling e) (spelled h) in
    let first : at + entry_length e ≤ end = omega (arith, le, more, length_of_spelling e) in
    let rest : at + entry_length e + length (spelled h) ≤ end = omega (arith, le, more, length_of_spelling e) in
    All-cons (EndsBy end) (place_of at e) (places_from (at + entry_length e) h) first (places_from-ends (at + entry_length e) h end rest)

pub places_behind-push : (gate : ℕ) (batches : List (List ℕ)) (batch : List ℕ) → places_behind gate (batches ++ batch ∷ []) ≡ places_behind gate batches ++ places_from (gate + taken batches + 5) (entries_of batch)
places_behind-push gate [] batch =
    let same : gate + 5 ≡ gate + 0 + 5 = omega arith in
    append-nil (places_from (gate + 5) (entries_of batch)) ∙ ap (λ n. places_from n (entries_of batch)) same
places_behind-push gate (b ∷ batches) batch =
    let same : gate + 5 + length b + taken batches + 5 ≡ gate + taken (b ∷ batches) + 5 = omega arith in
    ap (λ (l : List Place). places_from (gate + 5) (entries_of b) ++ l)
    (places_behind-push (gate + 5 + length b) batches batch ∙ ap (λ n. places_behind (gate + 5 + length b) batches ++ places_from n (entries_of batch)) same)
    ∙ sym (append_assoc (places_from (gate + 5) (entries_of b)) (places_behind (gate + 5 + length b) batches) (places_from (gate + taken (b ∷ batches) + 5) (entries_of batch)))

pub get_left : {A : Type 0} (xs ys : List A) (k : ℕ) → k < length xs → slice_get (xs ++ ys) k ≡ slice_get xs k
get_left [] ys k lt = absurd (omega (arith, lt))
get_left (x ∷ xs) ys zero lt = refl
get_left (x ∷ xs) ys (suc k) lt = get_left xs ys k (omega (arith, lt))

pub get_right : {A : Type 0} (xs ys : List A) (k : ℕ) → slice_get (xs ++ ys) (length xs + k) ≡ slice_get ys k
get_right [] ys k = let same : 0 + k ≡ k = omega arith in ap (slice_get ys) same
get_right (x ∷ xs) ys k = let same : suc (length xs) + k ≡ suc (length xs + k) = omega arith in ap (slice_get (x ∷ (xs ++ ys))) same ∙ get_right xs ys k

-- In octets that stand at this place of an area, an entry has this place.
pub record IsAt (at : ℕ) (octets : List ℕ) (place : Place) (e : HistoryEntry) : Type 0 where
  pub low : at ≤ place.at
  pub high : place.at + place.length ≤ at + length octets
  pub size : place.length ≡ entry_length e
  pub reads : take place.length (drop (place.at - at) octets) ≡ spelling e

at_first : (at : ℕ) (e : HistoryEntry) (rest : List ℕ) → IsAt at (spelling e ++ rest) (place_of at e) e
at_first at e rest = search (rules, length-append, length_of_spelling, take_at)

at_later : (at : ℕ) (front octets : List ℕ) (place : Place) (e : HistoryEntry) → IsAt (at + length front) octets place e → IsAt at (front ++ octets) place e
at_later at front octets place e is = search (rules, length-append, drop-append-add)

none_at : (k : ℕ) (place : Place) → slice_get {X = Place} [] k ≡ Some place → ⊥
none_at k place found = grind arith

-- the k-th place is that of the k-th entry
pub from_is : (at : ℕ) (h : List HistoryEntry) (k : ℕ) (place : Place) → slice_get (places_from at h) k ≡ Some place → (e : HistoryEntry) × (slice_get h k ≡ Some e) × IsAt at (spelled h) place e
from_is at [] k place found = absurd (none_at k place found)
from_is at (e ∷ h) zero place found =
    let same : place_of at e ≡ place = cc in
    (e, refl, subst (λ (p : Place). IsAt at (spelling e ++ spelled h) p e) same (at_first at e (spelled h)))
from_is at (e ∷ h) (suc k) place found =
    let rest = from_is (at + entry_length e) h k place found in
    let there : IsAt (at + length (spelling e)) (spelled h) place rest.0 = subst (λ n. IsAt (at + n) (spelled h) place rest.0) (sym (length_of_spelling e)) rest.2 in
    (rest.0, rest.1, at_later at (spelling e) (spelled h) place rest.0 there)

-- Among batches, the first behind this gate, an entry has this place.
pub record IsAmong (gate : ℕ) (batches : List (List ℕ)) (place : Place) (e : HistoryEntry) : Type 0 where
  pub some : List (List ℕ)
  pub batch : List ℕ
  pub more : List (List ℕ)
  pub parts : batches ≡ some ++ batch ∷ more
  pub here : IsAt (gate + taken some + 5) batch place e

among_first : (gate : ℕ) (batch : List ℕ) (batches : List (List ℕ)) (place : Place) (e : HistoryEntry) → IsAt (gate + 5) batch place e → IsAmong gate (batch ∷ batches) place e
among_first gate batch batches place e is =
    let same : gate + 5 ≡ gate + 0 + 5 = omega arith in
    record { some = []; batch = batch; more = batches; parts = refl; here = subst (λ n. IsAt n batch place e) same is }

among_later : (gate : ℕ) (batch : List ℕ) (batches : List (List ℕ)) (place : Place) (e : HistoryEntry) → IsAmong (gate + 5 + length batch) batches place e → IsAmong gate (batch ∷ batches) place e
among_later gate batch batches place e is =
    let same : gate + 5 + length batch + taken is.some + 5 ≡ gate + taken (batch ∷ is.some) + 5 = omega arith in
    record {
      some = batch ∷ is.some;
      batch = is.batch;
      more = is.more;
      parts = ap (λ (l : List (List ℕ)). batch ∷ l) is.parts;
      here = subst (λ n. IsAt n is.batch place e) same is.here;
    }

-- the k-th place is that of this entry, the k-th of these batches
abbrev pub IsFound : ℕ → List (List ℕ) → ℕ → Place → Type 0
IsFound gate batches k place = (e : HistoryEntry) × (slice_get (entries_in batches) k ≡ Some e) × IsAmong gate batches place e

found_first : (gate : ℕ) (batch : List ℕ) (batches : List (List ℕ)) → IsContent batch → (k : ℕ) (place : Place) → k < length (places_from (gate + 5) (entries_of batch))
    → slice_get (places_from (gate + 5) (entries_of batch)) k ≡ Some place → IsFound gate (batch ∷ batches) k place
found_first gate batch batches content k place lt found =
    search (rules, from_is, get_left, length-places_from, among_first)

found_later : (gate : ℕ) (batch : List ℕ) (batches : List (List ℕ)) (k j : ℕ) (place : Place) → k ≡ length (entries_of batch) + j → IsFound (gate + 5 + length batch) batches j place → IsFound gate (batch ∷ batches) k place
found_later gate batch batches k j place is rest = search (rules, get_right, among_later)

-- the k-th place is that of the k-th entry
pub behind_is : (gate : ℕ) (batches : List (List ℕ)) → All IsContent batches → (k : ℕ) (place : Place) → slice_get (places_behind gate batches) k ≡ Some place → IsFound gate batches k place
behind_is gate [] contents k place found = absurd (none_at k place found)
behind_is gate (batch ∷ batches) contents k place found =
    let here : List Place = places_from (gate + 5) (entries_of batch) in
    let rest : List Place = places_behind (gate + 5 + length batch) batches in
    elim (cases_lt k (length (places_from (gate + 5) (entries_of batch)))) [
      | inl lt ↦ found_first gate batch batches (All-head IsContent batch batches contents) k place lt (sym (get_left here rest k lt) ∙ found)
      | inr le ↦
          let past : length here + (k - length here) ≡ k = omega (arith, le) in
          let is : k ≡ length (entries_of batch) + (k - length here) =
          omega (arith, le, length-places_from (gate + 5) (entries_of batch)) in
          found_later gate batch batches k (k - length here) place is
          (behind_is (gate + 5 + length batch) batches (All-tail IsContent batch batches contents) (k - length here) place
          (sym (get_right here rest (k - length here)) ∙ ap (slice_get (here ++ rest)) past ∙ found))
    ]

pub length-places_behind : (gate : ℕ) (batches : List (List ℕ)) → length (places_behind gate batches) ≡ length (entries_in batches)
length-places_behind gate [] = refl
length-places_behind gate (batch ∷ batches) = omega (
  arith,
  length-append (places_from (gate + 5) (entries_of batch)) (places_behind (gate + 5 + length batch) batches),
  length-append (entries_of batch) (entries_in batches),
  length-places_from (gate + 5) (entries_of batch),
  length-places_behind (gate + 5 + length batch) batches,
)

-- ---- where the entries of batches lie in an area that stands for the batches

module _ (header : List ℕ) (long : length header ≡ 32) (octets : List ℕ) where
  -- a part of a batch
  part_stands : (some : List (List ℕ)) (batch : List ℕ) (more : List (List ℕ)) → Stands header octets (some ++ batch ∷ more) → (at n : ℕ) → end_of some + 5 ≤ at → at + n ≤ end_of some + 5 + length batch
      → take n (drop at octets) ≡ take n (drop (at - (end_of some + 5)) batch)
  part_stands some batch more stands at n low fits =
      let bs = some ++ batch ∷ more in
      let high : end_of bs ≤ length octets = omega (arith, ap length stands.front, length-take (end_of bs) octets, length-append header (batches_spelled bs), length-spelled bs, long) in
      part_is header long (end_of bs) octets some batch more high (ap (λ (l : List ℕ). drop 1 l) stands.front ∙ drop-append-le 1 header (batches_spelled bs) (omega (arith, long)))
      (small_among bs some batch more refl stands.small) at n low fits

  -- an entry of these batches, with one behind them or without
  pub entry_lies : (front : Front) → is_founded front ≡ true → (bs : List (List ℕ)) (torn : List ℕ) (place : Place) (e : HistoryEntry) → IsAmong header_length bs place e → KeepsOr front header bs torn octets → LiesAt place e octets
  entry_lies Founded is bs torn place e among (inl stands) =
      part_stands among.some among.batch among.more (subst (λ (l : List (List ℕ)). Stands header octets l) among.parts stands) place.at place.length (omega (arith, among.here.low)) (omega (arith, among.here.high)) ∙ among.here.reads
  entry_lies Founded is bs torn place e among (inr stands) =
      part_stands among.some among.batch (among.more ++ torn ∷ [])
      (subst (λ (l : List (List ℕ)). Stands header octets l) (ap (λ (l : List (List ℕ)). l ++ torn ∷ []) among.parts ∙ append_assoc among.some (among.batch ∷ among.more) (torn ∷ [])) stands)
      place.at place.length (omega (arith, among.here.low)) (omega (arith, among.here.high)) ∙ among.here.reads
  entry_lies Draft is bs torn place e among keeps = absurd (let no : false ≡ true = is in cc)
  entry_lies Founding is bs torn place e among keeps = absurd (let no : false ≡ true = is in cc)
