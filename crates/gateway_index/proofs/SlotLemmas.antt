-- How the slots of nodes change.
use Rattle.std.proofs.Common.{◌≡◌, ◌≢◌, ℕ, zero, suc, ◌+◌, ◌<◌, ◌≤◌, ◌==◌, ◌&&◌, ◌||◌, Bool, true, false, if◌then◌else◌, List, [], ◌∷◌, ◌++◌, Option, Some, None, length, length-append, map, take, drop, get_or, All, refl, sym, ap, ◌∙◌, add-one, arith, inl, inr, ◌⊎◌, true≢false, rules}
use Rattle.gateway_index.proofs.Names.{AreSame, AreSlots, cases_Bool, cond_both, drop-append-le, drop-map, drop_all, eq-eqb, false_from_ne_true, fresh_slot, is_known, IsNew, IsSame, kept_slots, known_at, length-map, length-take, list_any, map-append, map_fixed, nat_tests, ne_eqb, NodeId, nodes_of, Opening, opening_at, opening_in, or_parts, place_in, reopened, settled_slot, Slot, take-map, take_all, true_from_ne_false, with_node}
use Rattle.std.proofs.lemmas.List.Elements.{All-head, All-push, All-tail, All-map, All-weaker}
use Rattle.std.proofs.Math.Seq.{drop-cons}

-- ---- what is kept of a node

pub here : (firm : Bool) (n : ℕ) (slots : List Slot) (i : ℕ) (d : Slot) → i < length slots → (get_or slots i d).node.0 ≡ n → opening_at firm (drop i slots) n ≡ opening_in firm (get_or slots i d)
here firm n slots i d inside e = rw (drop-cons slots i d inside, eq-eqb (get_or slots i d).node.0 n e) refl

pub not_here : (firm : Bool) (n : ℕ) (slots : List Slot) (i : ℕ) (d : Slot) → i < length slots → (get_or slots i d).node.0 ≢ n → opening_at firm (drop i slots) n ≡ opening_at firm (drop (i + 1) slots) n
not_here firm n slots i d inside ne = rw (add-one, drop-cons slots i d inside, ne_eqb (get_or slots i d).node.0 n ne) refl

pub nowhere : (firm : Bool) (n : ℕ) (slots : List Slot) (i : ℕ) → length slots ≤ i → opening_at firm (drop i slots) n ≡ None
nowhere firm n slots i past = rw (drop_all i slots past) refl

pub known_is : (node : NodeId) (slots : List Slot) → list_any (λ (slot : Slot). slot.node.0 == node.0) slots ≡ is_known (nodes_of slots) node
known_is node [] = refl
known_is node (slot ∷ slots) = ap (λ (b : Bool). (slot.node.0 == node.0) || b) (known_is node slots)

-- ---- one node more

pub known_more : (slots : List Slot) (slot : Slot) → is_known (nodes_of slots) slot.node ≡ false → nodes_of (slots ++ slot ∷ []) ≡ with_node (nodes_of slots) (Some slot.node)
known_more slots slot new = map-append (λ (s : Slot). s.node) slots (slot ∷ []) ∙ sym (rw new refl)

pub known_same : (slots : List Slot) (node : NodeId) → is_known (nodes_of slots) node ≡ true → nodes_of slots ≡ with_node (nodes_of slots) (Some node)
known_same slots node old = sym (rw old refl)

pub openings_more : (firm : Bool) (n : ℕ) (slots : List Slot) (node : NodeId)
    → opening_at firm (slots ++ fresh_slot node ∷ []) n ≡ opening_at firm slots n
openings_more firm n [] node =
    cond_both (node.0 == n) (opening_in firm (fresh_slot node)) None (λ o. o ≡ None)
    (λ _. cond_both firm None None (λ o. o ≡ None) (λ _. refl) (λ _. refl)) (λ _. refl)
openings_more firm n (s ∷ slots) node =
    ap (λ (o : Option Opening). if s.node.0 == n then opening_in firm s else o) (openings_more firm n slots node)

pub slots_more : (k : ℕ) (node : NodeId) (slots : List Slot) → length slots < 64 → AreSlots k slots → AreSlots k (slots ++ fresh_slot node ∷ [])
slots_more k node slots room are = record {
  within = omega (arith, are.within, length-append slots (fresh_slot node ∷ []));
  bound = omega (arith, room, length-append slots (fresh_slot node ∷ []));
  unnamed = rw (drop-append-le k slots (fresh_slot node ∷ []) are.within) (All-push IsNew (drop k slots) (fresh_slot node) are.unnamed refl);
}

-- ---- another live side

nodes_map : (f : Slot → Slot) → ((slot : Slot) → (f slot).node ≡ slot.node) → (slots : List Slot) → nodes_of (map f slots) ≡ nodes_of slots
nodes_map f same [] = refl
nodes_map f same (slot ∷ slots) = λ i. same slot i ∷ nodes_map f same slots i

pub reopened_node : (n : ℕ) (opening : Option Opening) (slot : Slot) → (reopened n opening slot).node ≡ slot.node
reopened_node n opening slot = grind (arith, cond_both)

reopened_firm : (n : ℕ) (opening : Option Opening) (slot : Slot) → (reopened n opening slot).firm ≡ slot.firm
reopened_firm n opening slot = grind (arith, cond_both)

pub known_reopened : (n : ℕ) (opening : Option Opening) (slots : List Slot) → nodes_of (map (λ slot. reopened n opening slot) slots) ≡ nodes_of slots
known_reopened n opening slots = nodes_map (λ slot. reopened n opening slot) (reopened_node n opening) slots

pub known_reopened_firm : (n : ℕ) (opening : Option Opening) (k : ℕ) (slots : List Slot) → nodes_of (take k (map (λ slot. reopened n opening slot) slots)) ≡ nodes_of (take k slots)
known_reopened_firm n opening k slots = ap nodes_of (take-map (λ slot. reopened n opening slot) k slots) ∙ known_reopened n opening (take k slots)

pub firm_reopened : (n m : ℕ) (opening : Option Opening) (slots : List Slot) → opening_at true (map (λ slot. reopened n opening slot) slots) m ≡ opening_at true slots m
firm_reopened n m opening [] = refl
firm_reopened n m opening (slot ∷ slots) = λ i. if (reopened_node n opening slot i).0 == m then reopened_firm n opening slot i else firm_reopened n m opening slots i

reopened_live : (n : ℕ) (opening : Option Opening) (slot : Slot)
    → (reopened n opening slot).live ≡ (if slot.node.0 == n then opening else slot.live)
reopened_live n opening slot = elim (cases_Bool (slot.node.0 == n)) [ inl e ↦ rw e refl | inr e ↦ rw e refl ]

-- the step, by the numbers of the slot's node, of the node that begins an epoch and of the one that is asked for
live_step : {A : Type 0} (slot node m : ℕ) (known : Bool) (opening live later : A)
    → (if slot == m then (if slot == node then opening else live) else (if known && (node == m) then opening else later))
    ≡ (if ((slot == node) || known) && (node == m) then opening else (if slot == m then live else later))
live_step slot node m known opening live later = grind (arith, nat_tests)

pub live_reopened : (node : NodeId) (m : ℕ) (opening : Option Opening) (slots : List Slot)
    → opening_at false (map (λ slot. reopened node.0 opening slot) slots) m
    ≡ (if is_known (nodes_of slots) node && (node.0 == m) then opening else opening_at false slots m)
live_reopened node m opening [] = refl
live_reopened node m opening (slot ∷ slots) =
    (λ i. if (reopened_node node.0 opening slot i).0 == m then reopened_live node.0 opening slot i else live_reopened node m opening slots i)
    ∙ live_step slot.node.0 node.0 m (is_known (nodes_of slots) node) opening slot.live (opening_at false slots m)

unnamed_map : (f : Slot → Slot) → ((slot : Slot) → (f slot).firm ≡ slot.firm) → (k : ℕ) (slots : List Slot)
    → All IsNew (drop k slots) → All IsNew (drop k (map f slots))
unnamed_map f same k slots new =
    rw (drop-map f k slots) (All-map IsNew f (drop k slots) (All-weaker IsNew (λ slot. IsNew (f slot)) (λ slot is. same slot ∙ is) (drop k slots) new))

pub slots_reopened : (k n : ℕ) (opening : Option Opening) (slots : List Slot) → AreSlots k slots → AreSlots k (map (λ slot. reopened n opening slot) slots)
slots_reopened k n opening slots are = record {
  within = omega (arith, are.within, length-map slots (λ slot. reopened n opening slot));
  bound = omega (arith, are.bound, length-map slots (λ slot. reopened n opening slot));
  unnamed = unnamed_map (λ slot. reopened n opening slot) (reopened_firm n opening) k slots are.unnamed;
}

-- ---- both sides one side's

pub known_settled : (firm : Bool) (slots : List Slot) → nodes_of (map (λ slot. settled_slot firm slot) slots) ≡ nodes_of slots
known_settled firm slots = nodes_map (λ slot. settled_slot firm slot) (λ slot. refl) slots

pub openings_settled : (side firm : Bool) (n : ℕ) (slots : List Slot)
    → opening_at side (map (λ slot. settled_slot firm slot) slots) n ≡ opening_at firm slots n
openings_settled side firm n [] = refl
openings_settled true firm n (slot ∷ slots) =
    ap (λ (o : Option Opening). if slot.node.0 == n then opening_in firm slot else o) (openings_settled true firm n slots)
openings_settled false firm n (slot ∷ slots) =
    ap (λ (o : Option Opening). if slot.node.0 == n then opening_in firm slot else o) (openings_settled false firm n slots)

none_new : (n : ℕ) (slots : List Slot) → All IsNew slots → opening_at true slots n ≡ None
none_new n [] new = refl
none_new n (slot ∷ slots) new =
    let rest = none_new n slots (All-tail IsNew slot slots new) in
    cond_both (slot.node.0 == n) slot.firm (opening_at true slots n) (λ o. o ≡ None) (λ _. All-head IsNew slot slots new) (λ _. rest)

-- the firm side has nothing in the slots behind its own
firm_cut : (k n : ℕ) (slots : List Slot) → All IsNew (drop k slots) → opening_at true (take k slots) n ≡ opening_at true slots n
firm_cut zero n [] new = refl
firm_cut zero n (slot ∷ slots) new = sym (none_new n (slot ∷ slots) new)
firm_cut (suc k) n [] new = refl
firm_cut (suc k) n (slot ∷ slots) new = ap (λ (o : Option Opening). if slot.node.0 == n then slot.firm else o) (firm_cut k n slots new)

kept_known : (firm : Bool) (k : ℕ) (slots : List Slot) → nodes_of (kept_slots firm k slots) ≡ known_at firm k slots
kept_known firm k slots = grind arith

pub kept_openings : (firm : Bool) (k n : ℕ) (slots : List Slot) → All IsNew (drop k slots) → opening_at firm (kept_slots firm k slots) n ≡ opening_at firm slots n
kept_openings firm k n slots new = grind (arith, firm_cut)

pub kept_length : (firm : Bool) (k : ℕ) (slots : List Slot) → length (kept_slots firm k slots) ≤ length slots
kept_length firm k slots = grind (arith, length-take)

-- the slots that are kept, settled
abbrev pub settled : Bool → ℕ → List Slot → List Slot
settled firm k slots = map (λ slot. settled_slot firm slot) (kept_slots firm k slots)

pub settled_length : (firm : Bool) (k : ℕ) (slots : List Slot) → length (settled firm k slots) ≡ length (kept_slots firm k slots)
settled_length firm k slots = length-map (kept_slots firm k slots) (λ slot. settled_slot firm slot)

pub settled_known : (side firm : Bool) (k now : ℕ) (slots : List Slot) → now ≡ length (kept_slots firm k slots)
    → known_at side now (settled firm k slots) ≡ known_at firm k slots
settled_known side firm k now slots count = grind (arith, take_all, settled_length, known_settled, kept_known)

pub settled_openings : (side firm : Bool) (k n : ℕ) (slots : List Slot) → AreSlots k slots → opening_at side (settled firm k slots) n ≡ opening_at firm slots n
settled_openings side firm k n slots are = openings_settled side firm n (kept_slots firm k slots) ∙ kept_openings firm k n slots are.unnamed

pub settled_slots : (firm : Bool) (k now : ℕ) (slots : List Slot) → AreSlots k slots → now ≡ length (kept_slots firm k slots)
    → AreSlots now (settled firm k slots)
settled_slots firm k now slots are count = search (rules, settled_length, kept_length, drop_all)

-- ---- both sides the same

-- each slot that is settled has the same on both sides
pub all_same : (firm : Bool) (slots : List Slot) → All IsSame (map (λ slot. settled_slot firm slot) slots)
all_same firm slots = All-map IsSame (λ slot. settled_slot firm slot) slots (λ k d inside. refl)

-- where they have, none changes
one_still : (firm : Bool) (slot : Slot) → IsSame slot → settled_slot firm slot ≡ slot
one_still firm slot same = grind arith

kept_still : (firm : Bool) (k : ℕ) (slots : List Slot) → k ≡ length slots → kept_slots firm k slots ≡ slots
kept_still firm k slots all = grind (arith, take_all)

pub settled_still : (firm : Bool) (k : ℕ) (slots : List Slot) → AreSame k slots → slots ≡ settled firm k slots
settled_still firm k slots same = grind (arith, kept_still, map_fixed, one_still)

pub count_still : (firm : Bool) (k : ℕ) (slots : List Slot) → AreSame k slots → k ≡ length (kept_slots firm k slots)
count_still firm k slots same = same.known ∙ sym (ap (λ (xs : List Slot). length xs) (kept_still firm k slots same.known))

-- ---- the places of nodes among slots

-- ---- the search

pub found_here : (n : ℕ) (slots : List Slot) (i : ℕ) (d : Slot) → i < length slots → (get_or slots i d).node.0 ≡ n → place_in (drop i slots) n ≡ 0
found_here n slots i d inside e = rw (drop-cons slots i d inside, eq-eqb (get_or slots i d).node.0 n e) refl

pub found_later : (n : ℕ) (slots : List Slot) (i : ℕ) (d : Slot) → i < length slots → (get_or slots i d).node.0 ≢ n → place_in (drop i slots) n ≡ suc (place_in (drop (i + 1) slots) n)
found_later n slots i d inside ne = rw (add-one, drop-cons slots i d inside, ne_eqb (get_or slots i d).node.0 n ne) refl

pub found_nowhere : (n : ℕ) (slots : List Slot) (i : ℕ) → length slots ≤ i → place_in (drop i slots) n ≡ 0
found_nowhere n slots i past = rw (drop_all i slots past) refl

-- ---- known nodes have places of their own

pub known_inside : (node : NodeId) (slots : List Slot) → is_known (nodes_of slots) node ≡ true → place_in slots node.0 < length slots
known_inside node [] known = absurd (true≢false (sym known))
known_inside node (slot ∷ slots) known = elim (cases_Bool (slot.node.0 == node.0)) [
  | inl e ↦ rw e (omega arith)
  | inr e ↦ rw e (omega (arith, known_inside node slots (rw e at known)))
]

pub unknown_behind : (node : NodeId) (slots : List Slot) → is_known (nodes_of slots) node ≡ false → place_in slots node.0 ≡ length slots
unknown_behind node [] unknown = refl
unknown_behind node (slot ∷ slots) unknown =
    let parts = or_parts (slot.node.0 == node.0) (is_known (nodes_of slots) node) unknown in
    rw parts.0 (ap suc (unknown_behind node slots parts.1))

-- by the numbers of a slot's node and of two others, and by their places behind it
places_apart : (slot n m length p q : ℕ) → n ≢ m → (p < length → p ≢ q)
    → (if slot == n then 0 else suc p) < suc length → (if slot == n then 0 else suc p) ≢ (if slot == m then 0 else suc q)
places_apart slot n m length p q differ rest inside same = grind (arith, nat_tests)

pub apart : (n m : ℕ) (slots : List Slot) → n ≢ m → place_in slots n < length slots → place_in slots n ≢ place_in slots m
apart n m [] differ = λ inside same. omega (arith, inside)
apart n m (slot ∷ slots) differ =
    places_apart slot.node.0 n m (length slots) (place_in slots n) (place_in slots m) differ (apart n m slots differ)

-- ---- other slots

-- the place of a node that becomes known is the one behind all others
pub place_new : (node : NodeId) (slots : List Slot) (slot : Slot) → slot.node.0 ≡ node.0 → is_known (nodes_of slots) node ≡ false
    → place_in (slots ++ slot ∷ []) node.0 ≡ length slots
place_new node [] slot same unknown = rw (eq-eqb slot.node.0 node.0 same) refl
place_new node (one ∷ slots) slot same unknown =
    let parts = or_parts (one.node.0 == node.0) (is_known (nodes_of slots) node) unknown in
    rw parts.0 (ap suc (place_new node slots slot same parts.1))

pub place_map : (f : Slot → Slot) → ((slot : Slot) → (f slot).node ≡ slot.node) → (n : ℕ) (slots : List Slot) → place_in (map f slots) n ≡ place_in slots n
place_map f same n [] = refl
place_map f same n (slot ∷ slots) = λ i. if (same slot i).0 == n then 0 else suc (place_map f same n slots i)

-- a place stays, or it was behind so many slots and is so still
pub place_cut : (k n : ℕ) (slots : List Slot) → k ≤ length slots
    → (place_in (take k slots) n ≡ place_in slots n) ⊎ ((k ≤ place_in (take k slots) n) × (k ≤ place_in slots n))
place_cut zero n slots within = inr (omega arith, omega arith)
place_cut (suc k) n [] within = absurd (omega (arith, within))
place_cut (suc k) n (slot ∷ slots) within = elim (cases_Bool (slot.node.0 == n)) [
  | inl e ↦ rw e (inl refl)
  | inr e ↦ rw e (elim (place_cut k n slots (omega (arith, within))) [ inl same ↦ inl (ap suc same) | inr both ↦ inr (omega (arith, both.0), omega (arith, both.1)) ])
]

pub place_settled : (firm : Bool) (k n : ℕ) (slots : List Slot) → place_in (settled firm k slots) n ≡ place_in (kept_slots firm k slots) n
place_settled firm k n slots = place_map (λ slot. settled_slot firm slot) (λ slot. refl) n (kept_slots firm k slots)

-- a node is known whose place is that of a slot, and no other
pub known_by_place : (node : NodeId) (slots : List Slot) → place_in slots node.0 < length slots → is_known (nodes_of slots) node ≡ true
known_by_place node slots inside = true_from_ne_false _ (λ e. omega (arith, inside, unknown_behind node slots e))

pub unknown_by_place : (node : NodeId) (slots : List Slot) → length slots ≤ place_in slots node.0 → is_known (nodes_of slots) node ≡ false
unknown_by_place node slots behind = false_from_ne_true _ (λ e. omega (arith, behind, known_inside node slots e))
