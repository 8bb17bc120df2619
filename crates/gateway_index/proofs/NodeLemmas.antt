-- What each call makes of the nodes that an index keeps.
use Rattle.std.proofs.Common.{◌≡◌, ℕ, zero, ◌+◌, ◌<◌, ◌≤◌, ◌==◌, ◌&&◌, nat_lt, inl, inr, Bool, true, false, if◌then◌else◌, List, [], ◌∷◌, ◌++◌, Some, length, length-append, map, take, refl, sym, ap, ◌∙◌, arith, rules}
use Rattle.gateway_index.proofs.Names.{AreBeside, AreBlank, AreKeptTo, AreNew, AreSame, AreSlots, cond_both, eq-eqb, eqb-true, eqb_tells, fresh_slot, half, IfSome, is_known, IsLearnt, IsNodesStep, IsStepAt, kept_slots, KeyState, known_at, le-ltb, length-map, length-take, listed_nodes, lt-ltb, ltb-true, MayBeKnown, ne_eqb, NodeId, nodes_in, nodes_of, NodeSide, NodeTable, nothing_seen, numbered_nodes, opened_nodes, Opening, opening_at, place_in, reopened, Seen, seen_at, Slot, take-take, take_all, take_at, WindowPair, with_state, with_states}
use Rattle.gateway_index.proofs.PairLemmas.{kept_all}
use Rattle.gateway_index.proofs.SlotLemmas.{apart, known_by_place, known_inside, place_cut, place_map, place_new, place_settled, unknown_behind, known_more, known_reopened, known_reopened_firm, known_same, firm_reopened, live_reopened, openings_more, reopened_node, settled, settled_known, settled_length, settled_openings, slots_more}

-- sides of nodes are the same that tell the same
pub same_nodes : (a b : NodeSide) → a.known ≡ b.known → ((n : ℕ) → a.opening n ≡ b.opening n) → ((n : ℕ) → a.window n ≡ b.window n) → a ≡ b
same_nodes a b known openings windows = λ i. record { known = known i; opening = λ n. openings n i; window = λ n. windows n i }

-- the windows by node
abbrev window_by : Bool → List Slot → List WindowPair → ℕ → Seen
window_by firm slots pairs n = seen_at firm pairs (place_in slots n)

-- those of the first slots, where none behind them has a window
window_cut : (side : Bool) (k n : ℕ) (slots : List Slot) (pairs : List WindowPair) → k ≤ length slots
    → ((j : ℕ) → k ≤ j → seen_at side pairs j ≡ nothing_seen) → window_by side (take k slots) pairs n ≡ window_by side slots pairs n
window_cut side k n slots pairs within behind = grind (arith, place_cut)

-- ---- a node that becomes known

pub learnt_known : (node : NodeId) (slots : List Slot) → is_known (nodes_of slots) node ≡ true → IsLearnt node (place_in slots node.0) slots slots
learnt_known node slots known = record { known = known_same slots node known; inside = known_inside node slots known; here = refl; slots = inl refl }

pub learnt_new : (node : NodeId) (slots : List Slot) → is_known (nodes_of slots) node ≡ false
    → IsLearnt node (place_in slots node.0) slots (slots ++ fresh_slot node ∷ [])
learnt_new node slots new = search (rules, known_more, unknown_behind, length-append, place_new)

module _ {node : NodeId} {place : ℕ} {old new : List Slot} (learnt : IsLearnt node place old new) where
  -- what holds of the slots that there were, and of these with a fresh one, holds of those that there are
  either_slots : (P : List Slot → Type 0) → P old → (is_known (nodes_of old) node ≡ false → P (old ++ fresh_slot node ∷ [])) → P new
  either_slots P same more = elim learnt.slots [ inl is ↦ rw is same | inr is ↦ rw is.0 (more is.1) ]

  pub learnt_length : length old ≤ length new
  learnt_length = either_slots (λ s. length old ≤ length s) (omega arith) (λ _. omega (arith, length-append old (fresh_slot node ∷ [])))

  -- the slots that there were are the first ones
  learnt_first : take (length old) new ≡ old
  learnt_first = grind (arith, either_slots, take_all, take_at)

  pub learnt_firm : (firm : ℕ) → firm ≤ length old → nodes_of (take firm new) ≡ nodes_of (take firm old)
  learnt_firm firm within = grind (arith, take-take, learnt_first)

  pub learnt_openings : (side : Bool) (n : ℕ) → opening_at side new n ≡ opening_at side old n
  learnt_openings side n = either_slots (λ s. opening_at side s n ≡ opening_at side old n) refl (λ _. openings_more side n old node)

  pub learnt_windows : (side : Bool) (pairs : List WindowPair) → ((k : ℕ) → length old ≤ k → seen_at side pairs k ≡ nothing_seen)
      → (n : ℕ) → window_by side new pairs n ≡ window_by side old pairs n
  learnt_windows side pairs behind n = grind (arith, window_cut, learnt_length, learnt_first)

  pub learnt_slots : (firm : ℕ) → (is_known (nodes_of old) node ≡ false → length old < 64) → AreSlots firm old → AreSlots firm new
  learnt_slots firm room are = either_slots (λ s. AreSlots firm s) are (λ fresh. slots_more firm node old (room fresh) are)

  pub learnt_is_known : is_known (nodes_of new) node ≡ true
  learnt_is_known = known_by_place node new (omega (arith, learnt.inside, learnt.here))

  -- where it was known before, no slot changes
  pub learnt_still : (firm : ℕ) → place < length old → AreSame firm old → AreSame firm new
  learnt_still firm before same = search (rules, either_slots, place_new)

  -- both sides are the same still where they were and the node was known before
  pub learnt_same : (is_same : Bool) (count : ℕ) (still : Bool) → count ≡ length old → still ≡ (is_same && nat_lt place count)
      → still ≡ (is_same && is_known (nodes_of old) node)
  learnt_same is_same count still all is = is ∙ ap (λ (b : Bool). is_same && b) before
    where
      before : nat_lt place count ≡ is_known (nodes_of old) node
      before = either_slots (λ s. place < length s → place ≡ place_in s node.0 → nat_lt place count ≡ is_known (nodes_of old) node)
          (λ inside here. lt-ltb place count (omega (arith, inside, all)) ∙ sym (known_by_place node old (omega (arith, inside, here))))
          (λ fresh inside here. le-ltb place count (omega (arith, all, here, place_new node old (fresh_slot node) refl fresh)) ∙ sym fresh)
          learnt.inside learnt.here

-- both sides are the same still, where a node was known
pub both_still : (is_same : Bool) (place count : ℕ) (still : Bool) → still ≡ (is_same && nat_lt place count) → still ≡ true → (is_same ≡ true) × (place < count)
both_still is_same place count still is e = grind (arith, ltb-true)

-- ---- a step of the windows at a node's place

module _ (node : NodeId) (place : ℕ) (slots : List Slot) (here : place ≡ place_in slots node.0) (inside : place < length slots) where
  pub at_place : {step : Seen → Seen} {pairs after : List WindowPair} → IsStepAt place step pairs after
      → (n : ℕ) → window_by false slots after n ≡ (if node.0 == n then step (window_by false slots pairs n) else window_by false slots pairs n)
  at_place s n = grind (arith, eqb_tells, eq-eqb, ne_eqb, apart)

pub beside_step : {firm nodes more place : ℕ} {step : Seen → Seen} {pairs after : List WindowPair} → AreBeside firm nodes pairs
    → IsStepAt place step pairs after → place < more → nodes ≤ more → AreBeside firm more after
beside_step beside s inside grows = search (rules, ne_eqb)

-- ---- each call

-- behind all slots is no window of the firm side
firm_behind : (table : NodeTable) (k : ℕ) → length table.slots.items ≤ k → seen_at true table.windows.pairs.items k ≡ nothing_seen
firm_behind table k behind = table.beside.firm_behind k (omega (arith, behind, table.are_slots.within))

pub numbered_step : (node : NodeId) (number : ℕ) (state : KeyState) {place : ℕ} (old new : NodeTable) → new.firm ≡ old.firm
    → IsLearnt node place old.slots.items new.slots.items → IsStepAt place (with_state half number state) old.windows.pairs.items new.windows.pairs.items
    → IsNodesStep (numbered_nodes node number state) old new
unfolding nodes_in numbered_nodes
numbered_step node number state {place} old new same learnt s = record {
  live = same_nodes (nodes_in false new) (numbered_nodes node number state (nodes_in false old)) learnt.known (learnt_openings learnt false)
      (λ n. at_place node place new.slots.items learnt.here learnt.inside s n
      ∙ ap (λ (seen : Seen). if node.0 == n then with_state half number state seen else seen)
      (learnt_windows learnt false old.windows.pairs.items old.beside.live_behind n));
  firm = same_nodes (nodes_in true new) (nodes_in true old)
      (ap (λ (count : ℕ). nodes_of (take count new.slots.items)) same ∙ learnt_firm learnt old.firm old.are_slots.within) (learnt_openings learnt true)
      (λ n. s.firm (place_in new.slots.items n) ∙ learnt_windows learnt true old.windows.pairs.items (firm_behind old) n);
}

pub opened_step : (node : NodeId) (opening : Opening) {place : ℕ} (old new : NodeTable) {known : List Slot} → new.firm ≡ old.firm
    → IsLearnt node place old.slots.items known → new.slots.items ≡ map (λ slot. reopened node.0 (Some opening) slot) known
    → IsStepAt place (λ seen. nothing_seen) old.windows.pairs.items new.windows.pairs.items → IsNodesStep (opened_nodes node opening) old new
unfolding nodes_in opened_nodes
opened_step node opening {place} old new {known} same learnt slots s = record {
  live = same_nodes (nodes_in false new) (opened_nodes node opening (nodes_in false old))
      (ap nodes_of slots ∙ known_reopened node.0 (Some opening) known ∙ learnt.known)
      (λ n. ap (λ (xs : List Slot). opening_at false xs n) slots ∙ live_reopened node n (Some opening) known
      ∙ (λ i. if learnt_is_known learnt i && (node.0 == n) then Some opening else learnt_openings learnt false n i))
      (λ n. ap (λ (k : ℕ). seen_at false new.windows.pairs.items k) (places n) ∙ at_place node place known learnt.here learnt.inside s n
      ∙ ap (λ (seen : Seen). if node.0 == n then nothing_seen else seen) (learnt_windows learnt false old.windows.pairs.items old.beside.live_behind n));
  firm = same_nodes (nodes_in true new) (nodes_in true old)
      ((λ i. nodes_of (take (same i) (slots i))) ∙ known_reopened_firm node.0 (Some opening) old.firm known ∙ learnt_firm learnt old.firm old.are_slots.within)
      (λ n. ap (λ (xs : List Slot). opening_at true xs n) slots ∙ firm_reopened node.0 n (Some opening) known ∙ learnt_openings learnt true n)
      (λ n. s.firm (place_in new.slots.items n) ∙ ap (λ (k : ℕ). seen_at true old.windows.pairs.items k) (places n)
      ∙ learnt_windows learnt true old.windows.pairs.items (firm_behind old) n);
}
  where
    places : (n : ℕ) → place_in new.slots.items n ≡ place_in known n
    places n = ap (λ (xs : List Slot). place_in xs n) slots
        ∙ place_map (λ slot. reopened node.0 (Some opening) slot) (reopened_node node.0 (Some opening)) n known

pub listed_step : (node : NodeId) (numbers : List ℕ) (state : KeyState) {place : ℕ} (old new : NodeTable) → new.firm ≡ old.firm
    → new.slots.items ≡ old.slots.items → place ≡ place_in old.slots.items node.0 → place < length old.slots.items
    → IsStepAt place (with_states half numbers state) old.windows.pairs.items new.windows.pairs.items → IsNodesStep (listed_nodes node numbers state) old new
unfolding nodes_in listed_nodes
listed_step node numbers state {place} old new same slots here inside s = record {
  live = same_nodes (nodes_in false new) (listed_nodes node numbers state (nodes_in false old)) (ap nodes_of slots)
      (λ n. ap (λ (xs : List Slot). opening_at false xs n) slots)
      (λ n. ap (λ (xs : List Slot). window_by false xs new.windows.pairs.items n) slots ∙ at_place node place old.slots.items here inside s n);
  firm = same_nodes (nodes_in true new) (nodes_in true old) (λ i. nodes_of (take (same i) (slots i)))
      (λ n. ap (λ (xs : List Slot). opening_at true xs n) slots)
      (λ n. s.firm (place_in new.slots.items n) ∙ ap (λ (xs : List Slot). window_by true xs old.windows.pairs.items n) slots);
}

-- numbers of a node without a window change nothing
pub listed_none : (node : NodeId) (numbers : List ℕ) (state : KeyState) (old : NodeTable)
    → length old.slots.items ≤ place_in old.slots.items node.0 → IsNodesStep (listed_nodes node numbers state) old old
unfolding nodes_in listed_nodes
listed_none node numbers state old past = record {
  live = same_nodes (nodes_in false old) (listed_nodes node numbers state (nodes_in false old)) refl (λ n. refl)
      (λ n. cond_both (node.0 == n) (with_states half numbers state (window n)) (window n) (λ seen. window n ≡ seen) (λ e. still n (eqb-true node.0 n e)) (λ _. refl));
  firm = refl;
}
  where
    window : ℕ → Seen
    window n = window_by false old.slots.items old.windows.pairs.items n

    still : (n : ℕ) → node.0 ≡ n → window n ≡ with_states half numbers state (window n)
    still n same = grind arith

-- ---- both sides one side's

module _ {firm : Bool} {count : ℕ} {slots : List Slot} {pairs after : List WindowPair} (are : AreSlots count slots)
    (beside : AreBeside count (length slots) pairs) (kept : AreKeptTo (length pairs) firm pairs after) where
  kept_window : (n : ℕ) → window_by firm (kept_slots firm count slots) pairs n ≡ window_by firm slots pairs n
  kept_window n = by_side firm
    where
      by_side : (side : Bool) → window_by side (kept_slots side count slots) pairs n ≡ window_by side slots pairs n
      by_side true = window_cut true count n slots pairs are.within beside.firm_behind
      by_side false = refl

  pub settled_windows : (side : Bool) (n : ℕ) → window_by side (settled firm count slots) after n ≡ window_by firm slots pairs n
  settled_windows side n = grind (arith, kept_all, place_settled, kept_window)

  behind_kept : (k : ℕ) → length (kept_slots firm count slots) ≤ k → seen_at firm pairs k ≡ nothing_seen
  behind_kept k = by_side firm
    where
      by_side : (side : Bool) → length (kept_slots side count slots) ≤ k → seen_at side pairs k ≡ nothing_seen
      by_side true behind = beside.firm_behind k (omega (arith, behind, length-take count slots, are.within))
      by_side false behind = beside.live_behind k behind

  pub settled_beside : (now : ℕ) → now ≡ length (kept_slots firm count slots) → AreBeside now (length (settled firm count slots)) after
  settled_beside now is = search (rules, firm_behind, kept_all, behind_kept, settled_length)

pub settled_nodes : (firm : Bool) (old new : NodeTable) → new.firm ≡ length (kept_slots firm old.firm old.slots.items)
    → new.slots.items ≡ settled firm old.firm old.slots.items
    → AreKeptTo (length old.windows.pairs.items) firm old.windows.pairs.items new.windows.pairs.items → (side : Bool) → nodes_in side new ≡ nodes_in firm old
unfolding nodes_in
settled_nodes firm old new count slots kept side =
    grind (arith, same_nodes, settled_known, settled_openings, settled_windows)

-- ---- what the calls ask, and what stays true

pub no_nodes : (table : NodeTable) → table.slots.items ≡ [] → AreBlank 64 table.windows.pairs.items → (firm : Bool) → AreNew (nodes_in firm table)
unfolding nodes_in
no_nodes table none blank firm = record {
  known = ap (λ (slots : List Slot). known_at firm table.firm slots) none ∙ none_known firm table.firm;
  openings = λ node. ap (λ (slots : List Slot). opening_at firm slots node) none;
  windows = λ node. blank.blank firm (place_in table.slots.items node);
}
  where
    none_known : (side : Bool) (count : ℕ) → known_at side count [] ≡ []
    none_known true zero = refl
    none_known _ _ = refl

pub blank_beside : (firm nodes : ℕ) (pairs : List WindowPair) → AreBlank 64 pairs → AreBeside firm nodes pairs
blank_beside firm nodes pairs blank = record { count = blank.count; firm_behind = λ k behind. blank.blank true k; live_behind = λ k behind. blank.blank false k }

pub may_room : (node : NodeId) (old : NodeTable) → MayBeKnown node (nodes_in false old) → is_known (nodes_of old.slots.items) node ≡ false → length old.slots.items < 64
unfolding nodes_in
may_room node old may unknown = omega (arith, may unknown, length-map old.slots.items (λ (slot : Slot). slot.node))

module _ {node : NodeId} {place : ℕ} (old : NodeTable) {new : List Slot} (learnt : IsLearnt node place old.slots.items new)
    (may : MayBeKnown node (nodes_in false old)) where
  pub learnt_are_slots : AreSlots old.firm new
  learnt_are_slots = learnt_slots learnt old.firm (may_room node old may) old.are_slots

  pub learnt_inside : place < length old.windows.pairs.items
  learnt_inside = omega (arith, learnt.inside, learnt_are_slots.bound, old.beside.count)

  pub learnt_not_below : (number : ℕ) → IfSome ((nodes_in false old).window node.0).top (λ top. top ≤ number + half)
      → IfSome (seen_at false old.windows.pairs.items place).top (λ top. top ≤ number + half)
  unfolding nodes_in
  learnt_not_below number is = grind (arith, learnt_windows)

  pub learnt_beside : {step : Seen → Seen} {after : List WindowPair} → IsStepAt place step old.windows.pairs.items after
      → AreBeside old.firm (length new) after
  learnt_beside s = beside_step old.beside s learnt.inside (learnt_length learnt)
