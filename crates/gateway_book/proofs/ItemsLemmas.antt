-- The items of packets, of releases and of the entries of a history.
use Rattle.std.proofs.Common.{◌≡◌, ℕ, zero, suc, ◌-◌, List, [], ◌∷◌, ◌++◌, length, take, drop, sym, ap, ◌∙◌, arith, append_assoc, length-append, ◌+◌, ◌<◌, ◌≤◌, ◌==◌, not, Bool, true, false, if◌then◌else◌, filter, get_or, map, Option, Some, None, option_map, refl, subst}
use Rattle.gateway_book.proofs.Names.{along, along-append, and_parts, append-nil, are_distinct, at_drop_all, at_drop_more, drop_more, File, filed_under, FitBehind, Gathered, gathered, get_or_from_slice_get, HistoryAct, HistoryEntry, is_act_fit, IsFit, Item, items_by, items_by_act, items_from, items_of, length-drop, map-append, NamesOnce, NodeId, none-some, observed, packet_items, part_of, present_key, record_item, records_from, records_if, released_by, released_records, slice_get, slice_get_within, take_all, take_more}
use Rattle.std.proofs.Math.Seq.{drop-nil, take-nil}
use Rattle.std.specs.List.{list_all}
use Rattle.gtpp_message.specs.Packet.{PacketForm, PacketValue, Empty, Full, full_packet, is_empty_packet, packet_in, packet_of, packet_reading}
use Rattle.gw_base.specs.Lists.{once}
use Rattle.gw_base.specs.declared.history.HistoryAct.TheVariants.{Release}
use Rattle.gw_base.specs.declared.history.PacketKey.{PacketKey}

pub drop_over : (n : ℕ) (xs ys : List Item) → drop n (xs ++ ys) ≡ drop n xs ++ drop (n - length xs) ys
drop_over zero xs ys = ap (λ (m : ℕ). xs ++ drop m ys) {x = 0} {y = 0 - length xs} (omega arith)
drop_over (suc n) [] ys = ap (λ (m : ℕ). drop m ys) {x = suc n} {y = suc n - 0} (omega arith)
drop_over (suc n) (x ∷ xs) ys =
    drop_over n xs ys ∙ ap (λ (m : ℕ). drop n xs ++ drop m ys) {x = n - length xs} {y = suc n - suc (length xs)} (omega arith)

take_over : (n : ℕ) (xs ys : List Item) → take n (xs ++ ys) ≡ take n xs ++ take (n - length xs) ys
take_over zero xs ys = ap (λ (m : ℕ). take m ys) {x = 0} {y = 0 - length xs} (omega arith)
take_over (suc n) [] ys = ap (λ (m : ℕ). take m ys) {x = suc n} {y = suc n - 0} (omega arith)
take_over (suc n) (x ∷ xs) ys = ap (λ (l : List Item). x ∷ l)
    (take_over n xs ys ∙ ap (λ (m : ℕ). take n xs ++ take m ys) {x = n - length xs} {y = suc n - suc (length xs)} (omega arith))

-- what is gathered in two parts
pub gathered_on : (some more : List Item) (g : Gathered) → gathered more (gathered some g) ≡ gathered (some ++ more) g
gathered_on some more g = λ i. record { skip = skips i; room = rooms i; items = items i }
  where
    skips : g.skip - length some - length more ≡ g.skip - length (some ++ more)
    skips = omega (arith, length-append some more)

    rooms : g.room - length (drop g.skip some) - length (drop (g.skip - length some) more) ≡ g.room - length (drop g.skip (some ++ more))
    rooms = omega (arith, ap (λ (l : List Item). length l) (drop_over g.skip some more), length-append (drop g.skip some) (drop (g.skip - length some) more))

    items : (g.items ++ take g.room (drop g.skip some)) ++ take (g.room - length (drop g.skip some)) (drop (g.skip - length some) more)
        ≡ g.items ++ take g.room (drop g.skip (some ++ more))
    items =
        append_assoc g.items (take g.room (drop g.skip some)) (take (g.room - length (drop g.skip some)) (drop (g.skip - length some) more))
        ∙ ap (λ (l : List Item). g.items ++ l) (sym (ap (λ (l : List Item). take g.room l) (drop_over g.skip some more)
        ∙ take_over g.room (drop g.skip some) (drop (g.skip - length some) more)))

pub one_and_more : (item : Item) (more : List Item) (g : Gathered) → gathered more (gathered (item ∷ []) g) ≡ gathered (item ∷ more) g
one_and_more item more g = gathered_on (item ∷ []) more g

pub none_more : (g : Gathered) → gathered [] g ≡ g
none_more g = λ i. record { skip = skips i; room = rooms i; items = items i }
  where
    none : drop {A = Item} g.skip [] ≡ []
    none = drop-nil {A = Item} g.skip

    skips : g.skip - 0 ≡ g.skip
    skips = omega arith

    rooms : g.room - length (drop {A = Item} g.skip []) ≡ g.room
    rooms = omega (arith, ap (λ (l : List Item). length l) none)

    items : g.items ++ take g.room (drop g.skip []) ≡ g.items
    items = ap (λ (l : List Item). g.items ++ take g.room l) none ∙ ap (λ (l : List Item). g.items ++ l) (take-nil g.room) ∙ append-nil g.items

-- where there is no room left nothing more is taken
pub full_stays : (more : List Item) (g : Gathered) → g.room ≡ 0 → (gathered more g).items ≡ g.items
full_stays more g full = ap (λ (n : ℕ). g.items ++ take n (drop g.skip more)) full ∙ append-nil g.items

-- ---- the items of packets, of releases and of the entries of a history

-- ---- packets

records_items : (key : PacketKey) (moment format version index : ℕ) (records : List (List ℕ))
    → map (record_item moment format version) records ≡ map part_of (records_from key moment format version index records)
records_items key moment format version index [] = refl
records_items key moment format version index (r ∷ records) =
    ap (λ (rest : List Item). record_item moment format version r ∷ rest) (records_items key moment format version (index + 1) records)

no_records : (count format version : ℕ) (octets : List ℕ) → (count == 0) ≡ true → packet_in count format version octets ≡ None
no_records count format version octets none = rw none refl

empty_is_none : (octets : List ℕ) → is_empty_packet octets ≡ true → packet_of octets ≡ None
empty_is_none octets empty = grind (arith, no_records)

-- the items of what a packet's octets say
pub items_of_packet : (key : PacketKey) (moment : ℕ) (octets : List ℕ) (value : PacketValue) → Some value ≡ packet_reading octets
    → packet_items moment value ≡ map part_of (filed_under key moment octets)
items_of_packet key moment octets value reads = by_test (is_empty_packet octets) refl reads
  where
    in_packet : (form : Option PacketForm) → Some value ≡ option_map (λ f. Full f octets) form → packet_items moment value ≡ map part_of (records_if key moment form)
    in_packet None e = absurd (none-some value (sym e))
    in_packet (Some form) e =
        let same : value ≡ Full form octets = cc in rw same (records_items key moment form.format form.version 0 form.records)

    by_test : (b : Bool) → is_empty_packet octets ≡ b → Some value ≡ (if b then Some Empty else full_packet octets)
        → packet_items moment value ≡ map part_of (filed_under key moment octets)
    by_test true empty e = let same : value ≡ Empty = cc in rw (same, empty_is_none octets empty) refl
    by_test false empty e = in_packet (packet_of octets) e

pub no_items_of_packet : (key : PacketKey) (moment : ℕ) (octets : List ℕ) → ◌≡◌ {A = Option PacketValue} None (packet_reading octets)
    → map part_of (filed_under key moment octets) ≡ []
no_items_of_packet key moment octets reads = by_test (is_empty_packet octets) reads
  where
    in_packet : (form : Option PacketForm) → ◌≡◌ {A = Option PacketValue} None (option_map (λ f. Full f octets) form)
        → map part_of (records_if key moment form) ≡ []
    in_packet None e = refl
    in_packet (Some form) e = absurd (none-some (Full form octets) e)

    by_test : (b : Bool) → ◌≡◌ {A = Option PacketValue} None (if b then Some Empty else full_packet octets) → map part_of (filed_under key moment octets) ≡ []
    by_test true e = absurd (none-some Empty e)
    by_test false e = in_packet (packet_of octets) e

-- ---- releases

-- a list that names each number once is each of its numbers once
all_apart : (x : ℕ) (xs : List ℕ) → list_all (λ y. not (x == y)) xs ≡ true → filter (λ y. not (x == y)) xs ≡ xs
all_apart x [] all = refl
all_apart x (y ∷ xs) all =
    let parts = and_parts (not (x == y)) (list_all (λ z. not (x == z)) xs) all in rw parts.0 (ap (λ (ys : List ℕ). y ∷ ys) (all_apart x xs parts.1))

pub distinct_is_once : (xs : List ℕ) → are_distinct xs ≡ true → once (λ (x : ℕ) (y : ℕ). x == y) xs ≡ xs
distinct_is_once [] all = refl
distinct_is_once (x ∷ xs) all =
    let parts = and_parts (list_all (λ y. not (x == y)) xs) (are_distinct xs) all in
    ap (λ (ys : List ℕ). x ∷ filter (λ y. not (x == y)) ys) (distinct_is_once xs parts.1) ∙ ap (λ (ys : List ℕ). x ∷ ys) (all_apart x xs parts.0)

abbrev pub released_items : List HistoryEntry → ℕ → NodeId → List ℕ → List Item
released_items before moment n xs = map part_of (released_by before moment n xs)

-- what the numbers that are left release is gathered behind what one released
pub released_on : (before : List HistoryEntry) (moment : ℕ) (n : NodeId) (xs : List ℕ) (i x : ℕ) (old new : Gathered) → i < length xs → x ≡ get_or xs i 0
    → new ≡ gathered (map part_of (released_records before moment n x)) old
    → gathered (released_items before moment n (drop (i + 1) xs)) new ≡ gathered (released_items before moment n (drop i xs)) old
released_on before moment n xs i x old new lt here one =
    ap (λ (g : Gathered). gathered (released_items before moment n (drop (i + 1) xs)) g) one
    ∙ gathered_on (map part_of (released_records before moment n x)) (released_items before moment n (drop (i + 1) xs)) old
    ∙ ap (λ (items : List Item). gathered items old) (sym (map-append part_of (released_records before moment n x) (released_by before moment n (drop (i + 1) xs))))
    ∙ ap (λ (y : ℕ). gathered (released_items before moment n (y ∷ drop (i + 1) xs)) old) here
    ∙ sym (at_drop_more (λ (ys : List ℕ). gathered (released_items before moment n ys) old) xs i 0 lt)

-- where no number is left, nothing more is gathered
pub released_end : (before : List HistoryEntry) (moment : ℕ) (n : NodeId) (xs : List ℕ) (i : ℕ) (g : Gathered) → length xs ≤ i
    → g ≡ gathered (released_items before moment n (drop i xs)) g
released_end before moment n xs i g past =
    sym (at_drop_all (λ (ys : List ℕ). gathered (released_items before moment n ys) g) xs i past ∙ none_more g)

-- ---- the items of an entry by its act

module _ (before : List HistoryEntry) (v : HistoryEntry) where
  pub file_items : (n : NodeId) (x : ℕ) (packet : List ℕ) → v.act ≡ File n x packet → map part_of (filed_under (present_key before n x) v.moment packet) ≡ items_by before v
  file_items n x packet is = sym (ap (items_by_act before v.moment) is)

  pub release_items : (n : NodeId) (xs : List ℕ) → v.act ≡ Release n xs → NamesOnce v.act → released_items before v.moment n xs ≡ items_by before v
  release_items n xs is once_each = grind (arith, distinct_is_once)

-- ---- the entries of a history

pub some_at : (h : List HistoryEntry) (k : ℕ) → k < length h → (e : HistoryEntry) × (slice_get h k ≡ Some e)
some_at [] k lt = absurd (omega (arith, lt))
some_at (e ∷ h) zero lt = (e, refl)
some_at (x ∷ h) (suc k) lt = some_at h k (omega (arith, lt))

pub fit_at : (size : ℕ) (before h : List HistoryEntry) (k : ℕ) (e : HistoryEntry) → FitBehind size before h → slice_get h k ≡ Some e
    → IsFit size (before ++ take k h) e
fit_at size before [] k e fit is = absurd (none-some e is)
fit_at size before (x ∷ h) zero e fit is = let same : x ≡ e = cc in rw (append-nil, ← same) fit.0
fit_at size before (x ∷ h) (suc k) e fit is =
    subst (λ (b : List HistoryEntry). IsFit size b e) (append_assoc before (x ∷ []) (take k h)) (fit_at size (before ++ x ∷ []) h k e fit.1 is)

-- a fit release names no number twice
names_once : (size : ℕ) (h : List HistoryEntry) (e : HistoryEntry) (act : HistoryAct) → e.act ≡ act → IsFit size h e → NamesOnce act
names_once size h e (Release n xs) is fit = by_list xs is
  where
    by_list : (ys : List ℕ) → e.act ≡ Release n ys → are_distinct ys ≡ true
    by_list [] a = refl
    by_list (y ∷ ys) a = (and_parts _ (are_distinct (y ∷ ys)) (subst (λ (b : HistoryAct). is_act_fit (observed h) b ≡ true) a fit.act)).1
names_once size h e _ is fit = tt

pub fit_names_once : (size : ℕ) (h : List HistoryEntry) (k : ℕ) (e : HistoryEntry) → FitBehind size [] h → slice_get h k ≡ Some e → NamesOnce e.act
fit_names_once size h k e fit is = names_once size (take k h) e e.act refl (fit_at size [] h k e fit is)

-- one entry more stands in front
pub front_more : (h : List HistoryEntry) (k : ℕ) (e : HistoryEntry) → slice_get h k ≡ Some e → take (k + 1) h ≡ take k h ++ e ∷ []
front_more h k e is = take_more h k e (slice_get_within h k e is) ∙ ap (λ x. take k h ++ x ∷ []) (get_or_from_slice_get h k e e is)

-- its items come first of those behind
pub items_more : (h : List HistoryEntry) (k : ℕ) (e : HistoryEntry) → slice_get h k ≡ Some e → items_from k h ≡ items_by (take k h) e ++ items_from (k + 1) h
items_more h k e is =
    ap (along items_by (take k h)) (drop_more h k e (slice_get_within h k e is) ∙ ap (λ x. x ∷ drop (k + 1) h) (get_or_from_slice_get h k e e is))
    ∙ ap (λ b. items_by (take k h) e ++ along items_by b (drop (k + 1) h)) (sym (front_more h k e is))

-- and last of those in front
pub items_of_more : (h : List HistoryEntry) (k : ℕ) (e : HistoryEntry) → slice_get h k ≡ Some e → items_of (take (k + 1) h) ≡ items_of (take k h) ++ items_by (take k h) e
items_of_more h k e is =
    ap items_of (front_more h k e is) ∙ along-append items_by [] (take k h) (e ∷ []) ∙ ap (λ more. items_of (take k h) ++ more) (append-nil (items_by (take k h) e))

-- ---- how many came, where there is room for more

pub came : (items : List Item) (old new : Gathered) → new ≡ gathered items old → (new.room ≡ 0 → ⊥)
    → (old.skip - new.skip) + (length new.items - length old.items) ≡ length items
came items old new is some = grind (arith, items, length-append, take_all, length-drop)
