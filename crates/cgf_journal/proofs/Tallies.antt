-- The tally of a history tells what its entries cost and promise.
use Rattle.std.proofs.Common.{◌≡◌, ℕ, ◌+◌, ◌-◌, ◌*◌, ◌&&◌, Bool, true, nat_le, List, [], ◌∷◌, ◌++◌, length, filter, refl, sym, ap, ◌∙◌, arith, append_assoc, subst, ◌≤◌, rules}
use Rattle.cgf_journal.proofs.Names.{All-push, append-nil, AreBatches, AreEnough, capacity_of, cheapest_entry, cost_of, costs_of, costs_of-append, count_held, due_after, entries_in, entries_of, flat_map-append, free_beside, has_room, has_room_behind, held_after, held_by, held_keys, HeldKey, HistoryAct, HistoryEntry, HistoryView, is_close_due, IsContent, no_tally, passing, promised_by, promised_octets, Start, stays_held, tally_behind, tally_behind_all, tally_of, TallyValue}
use Rattle.gw_base.specs.ViewLaws.{view_of-append}
use Rattle.cgf_journal.proofs.InOrder.{passing-append, passing_all, passing_all_in_order, passing_both}

-- ---- one entry after the other

pub tally_all-append : (t : TallyValue) (h g : List HistoryEntry) → tally_behind_all t (h ++ g) ≡ tally_behind_all (tally_behind_all t h) g
tally_all-append t [] g = refl
tally_all-append t (e ∷ h) g = tally_all-append (tally_behind t e) h g

pub tally_all : (h g : List HistoryEntry) → tally_behind_all (tally_of h) g ≡ tally_of (h ++ g)
tally_all h g = sym (tally_all-append no_tally h g)

pub tally_all-costs : (t : TallyValue) (g : List HistoryEntry) → (tally_behind_all t g).costs ≡ t.costs + costs_of g
tally_all-costs t [] = omega arith
tally_all-costs t (e ∷ g) = omega (arith, tally_all-costs (tally_behind t e) g)

-- ---- the held keys, in another order

-- as many keys of the two lists pass each test
abbrev AreAlike : List HeldKey → List HeldKey → Type 0
AreAlike keys others = (p : HeldKey → Bool) → passing p keys ≡ passing p others

filter_alike : (q : HeldKey → Bool) (keys others : List HeldKey) → AreAlike keys others → AreAlike (filter q keys) (filter q others)
filter_alike q keys others alike p = passing_both p q keys ∙ alike (λ (key : HeldKey). q key && p key) ∙ sym (passing_both p q others)

after_alike : (act : HistoryAct) (keys others : List HeldKey) → AreAlike keys others → AreAlike (held_after act keys) (filter (λ (key : HeldKey). stays_held act key) others ++ held_by act [])
after_alike act keys others is = search (rules, passing_all_in_order, filter_alike, passing-append)

length_alike : (keys others : List HeldKey) → AreAlike keys others → length keys ≡ length others
length_alike keys others alike = sym (passing_all keys) ∙ alike (λ (key : HeldKey). true) ∙ passing_all others

-- ---- what a tally tells of a history

record Tells (t : TallyValue) (h : List HistoryEntry) : Type 0 where
  costs : t.costs ≡ costs_of h
  held : AreAlike t.held (held_keys h)
  due : t.is_close_due ≡ is_close_due h

tells_next : (t : TallyValue) (h : List HistoryEntry) (e : HistoryEntry) → Tells t h → Tells (tally_behind t e) (h ++ e ∷ [])
tells_next t h e tells = record {
  costs = omega (arith, tells.costs, costs_of-append h (e ∷ []));
  held = λ p. after_alike e.act t.held (held_keys h) tells.held p ∙ sym (ap (λ (v : HistoryView). passing p v.held) (view_of-append h e));
  due = ap (λ (b : Bool). due_after b e.act) tells.due ∙ sym (ap (λ (v : HistoryView). v.is_close_due) (view_of-append h e));
}

tells_all : (t : TallyValue) (h g : List HistoryEntry) → Tells t h → Tells (tally_behind_all t g) (h ++ g)
tells_all t h [] tells = let P : List HistoryEntry → Type 0 = λ k. Tells t k in subst P (sym (append-nil h)) tells
tells_all t h (e ∷ g) tells =
    let P : List HistoryEntry → Type 0 = λ k. Tells (tally_behind_all t (e ∷ g)) k in
    subst P (append_assoc h (e ∷ []) g) (tells_all (tally_behind t e) (h ++ e ∷ []) g (tells_next t h e tells))

none_told : Tells no_tally []
none_told = record { costs = refl; held = λ p. refl; due = refl }

tells_of : (h : List HistoryEntry) → Tells (tally_of h) h
tells_of h = tells_all no_tally [] h none_told

pub tally_of-costs : (h : List HistoryEntry) → (tally_of h).costs ≡ costs_of h
tally_of-costs h = (tells_of h).costs

promises_are : (h : List HistoryEntry) → promised_by (tally_of h) ≡ promised_octets h
promises_are h = grind (arith, tells_of, length_alike)

pub room_is : (h : List HistoryEntry) (e : HistoryEntry) (size : ℕ) → has_room_behind (tally_of h) e size ≡ has_room h e size
room_is h e size =
    let after : tally_of (h ++ e ∷ []) ≡ tally_behind (tally_of h) e = tally_all-append no_tally h (e ∷ []) in
    let costs : (tally_behind (tally_of h) e).costs ≡ costs_of h + cost_of e = ap (λ (n : ℕ). n + cost_of e) (tally_of-costs h) in
    let promises : promised_by (tally_behind (tally_of h) e) ≡ promised_octets (h ++ e ∷ []) = ap (λ (t : TallyValue). promised_by t) (sym after) ∙ promises_are (h ++ e ∷ []) in
    λ i. nat_le (costs i + promises i) (capacity_of size)

pub free_is : (h : List HistoryEntry) (size : ℕ) → free_beside (tally_of h) size ≡ capacity_of size - (costs_of h + promised_octets h)
free_is h size = λ i. capacity_of size - (tally_of-costs h i + promises_are h i)

-- ---- entries: what they spell, what they cost, and which batches hold them

pub entries_in-push : (batches : List (List ℕ)) (batch : List ℕ) → entries_in (batches ++ batch ∷ []) ≡ entries_in batches ++ entries_of batch
entries_in-push batches batch = flat_map-append entries_of batches (batch ∷ []) ∙ ap (λ (h : List HistoryEntry). entries_in batches ++ h) (append-nil (entries_of batch))

-- one more batch behind others
pub are_batches-push : (size : ℕ) (batches : List (List ℕ)) (batch : List ℕ) → AreBatches size batches → IsContent batch → costs_of (entries_in batches ++ entries_of batch) ≤ capacity_of size → AreBatches size (batches ++ batch ∷ [])
are_batches-push size batches batch are content costs = record {
  contents = All-push IsContent batches batch are.contents content;
  costs = subst (λ (h : List HistoryEntry). costs_of h ≤ capacity_of size) (sym (entries_in-push batches batch)) costs;
}

-- each entry costs 30 octets at least
pub costs_at_least : (h : List HistoryEntry) → cheapest_entry * length h ≤ costs_of h
costs_at_least [] = omega arith
costs_at_least (e ∷ h) = omega (arith, costs_at_least h)

-- ---- what is reserved stays enough

pub still_enough : (size places more keys many : ℕ) → more ≡ places → many ≡ keys → AreEnough size places keys → AreEnough size more many
still_enough size places more keys many same_places same_keys enough = search rules

-- an entry that holds a key costs what a Hold does at least
pub hold_costs : (e : HistoryEntry) → 42 * count_held e.act ≤ cost_of e
hold_costs e = by_act e.act
  where
    by_act : (act : HistoryAct) → 42 * count_held act ≤ cost_of (record { moment = e.moment; caller = e.caller; act = act })
    by_act Start = omega arith
    by_act _ = omega arith
