-- A history makes no more items than its entries cost of a journal: each record of a packet is an octet at least, and is
-- filed as it comes or held; and each held copy is released once.
use Rattle.std.proofs.Common.{◌≡◌, ◌∙◌, refl, ap, ℕ, ◌+◌, ◌≤◌, ◌==◌, ◌&&◌, not, Bool, true, false, if◌then◌else◌, List, [], ◌∷◌, ◌++◌, filter, length, Option, Some, option_and_then, arith, append_assoc, append-nil, eq-eqb, length-append, sym}
use Rattle.gateway_answer.proofs.Names.{along, begins_epoch, body, cost_of, costs_of, false≢true, filed_under, held_by, held_keys, held_keys-append, HeldKey, HistoryAct, HistoryEntry, items_by, items_by_act, items_of, last_naming, length-map, list_any, names, NodeId, once, option_map_or, packet_of_hold, part_of, present_entries, present_key, released_by, stays_held, sum_by-append}
use Rattle.byteorder.specs.Endian.{big_bytes}
use Rattle.gw_base.specs.declared.history.HistoryAct.TheVariants as act
use Rattle.gateway_answer.specs.ListFitLaws.{distinct_once}
use Rattle.gateway_answer.specs.OnceLaws.{any_once}
use Rattle.gateway_answer.proofs.ReleasedCounts.{filed_count, key_count, load, load_cons, load_less, load_part, packet_count, packet_few, released_all, HeldKeysAreHeld, all_stay, apart, held_there, less_all, named_after}

-- ---- one entry more

-- how many records are held of a history
abbrev load_of : List HistoryEntry → ℕ
load_of h = load h (held_keys h)

new_load : (h : List HistoryEntry) (e : HistoryEntry)
    → load_of (h ++ e ∷ []) ≡ load h (filter (λ (key : HeldKey). stays_held e.act key) (held_keys h)) + load (h ++ e ∷ []) (held_by e.act [])
new_load h e =
    ap (λ (ks : List HeldKey). load (h ++ e ∷ []) ks) (held_keys-append h e)
    ∙ sum_by-append (λ (key : HeldKey). key_count (h ++ e ∷ []) key) (filter (λ (key : HeldKey). stays_held e.act key) (held_keys h)) (held_by e.act [])
    ∙ ap (λ (k : ℕ). k + load (h ++ e ∷ []) (held_by e.act [])) (all_stay h e (held_keys h))

not_both : (a b c : Bool) → (b ≡ true → c ≡ true) → not (a && c) ≡ true → not (a && b) ≡ true
not_both true true c more is = absurd (false≢true (sym (ap not (more refl)) ∙ is))
not_both true false c more is = refl
not_both false b c more is = refl

apart_once : (h : List HistoryEntry) (n : NodeId) (xs : List ℕ) (key : HeldKey) → stays_held (act.Release n xs) key ≡ true
    → apart h n.0 (once (λ x y. x == y) xs) key ≡ true
apart_once h n xs key stays =
    not_both (n.0 == key.node.0) (list_any (λ x. x == key.number) (once (λ x y. x == y) xs)) (list_any (λ x. x == key.number) xs)
    (any_once (λ x. x == key.number) xs) stays

body_long : (a b packet : List ℕ) → length packet ≤ length (a ++ (b ++ packet))
body_long a b packet = omega (arith, length-append a (b ++ packet), length-append b packet)

module _ (law : HeldKeysAreHeld) (h : List HistoryEntry) (e : HistoryEntry) where
  abbrev Step : HistoryAct → Type 0
  Step a =
      length (items_by_act h e.moment a) + (load h (filter (λ (key : HeldKey). stays_held a key) (held_keys h)) + load (h ++ e ∷ []) (held_by a []))
      ≤ load_of h + (25 + length (body a) + 5)

  part : (a : HistoryAct) → load h (filter (λ (key : HeldKey). stays_held a key) (held_keys h)) ≤ load_of h
  part a = load_part h (λ (key : HeldKey). stays_held a key) (held_keys h)

  held_now : (n : NodeId) (x : ℕ) (packet : List ℕ) → e.act ≡ act.Hold n x packet
      → load (h ++ e ∷ []) ((record { node = n; number = x }) ∷ []) ≡ packet_count packet
  held_now n x packet is =
      let key : HeldKey = record { node = n; number = x } in
      let begins : begins_epoch n.0 e.act ≡ false = ap (λ (a : HistoryAct). begins_epoch n.0 a) is in
      let named : names n.0 x e.act ≡ true =
      ap (λ (a : HistoryAct). names n.0 x a) is ∙ ap (λ (b : Bool). b && (x == x)) (eq-eqb n.0 n.0 refl) ∙ eq-eqb x x refl in
      let last : last_naming n.0 x (present_entries n.0 (h ++ e ∷ [])) ≡ Some e =
      named_after h e n.0 x begins ∙ ap (λ (b : Bool). if b then Some e else last_naming n.0 x (present_entries n.0 h)) named in
      let count : key_count (h ++ e ∷ []) key ≡ packet_count packet =
      ap (λ (o : Option HistoryEntry). option_map_or packet_count (option_and_then (λ (d : HistoryEntry). packet_of_hold d.act) o) 0) last
      ∙ ap (λ (a : HistoryAct). option_map_or packet_count (packet_of_hold a) 0) is in
      omega (arith, load_cons (h ++ e ∷ []) key [], count)

  step_act : (a : HistoryAct) → e.act ≡ a → Step a
  step_act (act.File n x packet) is =
      omega (
        arith,
        part (act.File n x packet),
        length-map (filed_under (present_key h n x) e.moment packet) part_of,
        filed_count (present_key h n x) e.moment packet,
        packet_few packet,
        body_long (big_bytes 4 n.0) (big_bytes 8 x) packet,
      )
  step_act (act.Hold n x packet) is =
      omega (arith, part (act.Hold n x packet), held_now n x packet is, packet_few packet, body_long (big_bytes 4 n.0) (big_bytes 8 x) packet)
  step_act (act.Release n xs) is =
      let ns : List ℕ = once (λ x y. x == y) xs in
      omega (
        arith,
        load_less h (λ (key : HeldKey). stays_held (act.Release n xs) key) (apart h n.0 ns) (apart_once h n xs) (held_keys h),
        less_all h n.0 (held_keys h) (λ x. held_there law h n x) ns (distinct_once xs),
        length-map (released_by h e.moment n ns) part_of,
        released_all h e.moment n ns,
      )
  step_act other is = omega (arith, part other)

  step : length (items_by h e) + load_of (h ++ e ∷ []) ≤ load_of h + cost_of e
  step = omega (arith, step_act e.act refl, new_load h e)

items_cost : HeldKeysAreHeld → (before h : List HistoryEntry) → length (along items_by before h) + load_of (before ++ h) ≤ load_of before + costs_of h
items_cost law before [] = omega (arith, ap load_of (append-nil before))
items_cost law before (e ∷ h) =
    omega (
      arith,
      step law before e,
      items_cost law (before ++ e ∷ []) h,
      length-append (items_by before e) (along items_by (before ++ e ∷ []) h),
      ap load_of (append_assoc before (e ∷ []) h),
    )

-- the items of a history are no more than what its entries cost
pub few_items : HeldKeysAreHeld → (h : List HistoryEntry) → length (items_of h) ≤ costs_of h
few_items law h = omega (arith, items_cost law [] h)
