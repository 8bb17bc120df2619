-- What a window has as held is held, after each step.
use Rattle.std.proofs.Common.{◌≡◌, ℕ, ◌==◌, ◌&&◌, Bool, true, false, if◌then◌else◌, List, [], ◌∷◌, Some, None, is_some, refl, sym, ap, ◌∙◌, true≢false, arith, rules}
use Rattle.gateway_index.proofs.Names.{and_left, and_right, AreHeldIn, AreNew, cond-false, cond_both, Copies, Fresh, half, Held, held_in, HeldPair, is_within, IsHeldStep, IsNodesStep, KeyState, list_any, listed_nodes, no_place, NodeId, nodes_in, NodeSide, NodeTable, numbered_nodes, opened_nodes, Opening, or_parts, with_copy, with_state, with_states, without_copies, without_copy, without_node}
use Rattle.transfer_cmd.specs.Lists.{is_held}
use Rattle.gateway_index.proofs.HeldLemmas.{same_numbers}

-- ---- states

-- a state that isn't that of a held number
not_held : {A : Type 0} (s : KeyState) → is_held s ≡ false → s ≡ Held → A
not_held s other e = absurd (true≢false (sym (ap is_held e) ∙ other))

-- ---- copies but some

other_node : (m : ℕ) (xs : List ℕ) (held : Copies) (node n : ℕ) → (m == node) ≡ false
    → (without_copies m xs held).place_of node n ≡ held.place_of node n
unfolding without_copies
other_node m [] held node n e = refl
other_node m (x ∷ xs) held node n e = other_node m xs (without_copy m x held) node n e
    ∙ cond-false ((m == node) && (x == n)) None (held.place_of node n) (and_left (m == node) (x == n) e)

other_number : (m : ℕ) (xs : List ℕ) (held : Copies) (node n : ℕ) → list_any (λ x. x == n) xs ≡ false
    → (without_copies m xs held).place_of node n ≡ held.place_of node n
unfolding without_copies
other_number m [] held node n e = refl
other_number m (x ∷ xs) held node n e =
    let parts = or_parts (x == n) (list_any (λ y. y == n) xs) e in
    other_number m xs (without_copy m x held) node n parts.1
    ∙ cond-false ((m == node) && (x == n)) None (held.place_of node n) (and_right (m == node) (x == n) parts.0)

-- ---- one side

none_held : (held : Copies) (nodes : NodeSide) → AreNew nodes → AreHeldIn held nodes
none_held held nodes new node n is = not_held Fresh refl (rw (new.windows node) at is)

-- what is so of each state that a window may have after some got one, where a number had this one
after_given : (P : KeyState → Type 0) (inside same : Bool) {given was : KeyState} → P Fresh → (same ≡ true → P given) → (same ≡ false → P was)
    → P (if inside then (if same then given else was) else Fresh)
after_given P inside same fresh its other = search (rules, cond_both)

pub numbered_held : (m : NodeId) (x : ℕ) (s : KeyState) → is_held s ≡ false → (held : Copies) (nodes : NodeSide) → AreHeldIn held nodes
    → AreHeldIn held (numbered_nodes m x s nodes)
unfolding numbered_nodes
numbered_held m x s one held nodes two = search (rules, cond_both, is_some, after_given, not_held)

pub copied_held : (m : NodeId) (x : ℕ) (held : Copies) (nodes : NodeSide) → AreHeldIn held nodes
    → AreHeldIn (with_copy m.0 x no_place held) (numbered_nodes m x Held nodes)
unfolding numbered_nodes
copied_held m x held nodes told node n is = by_node (m.0 == node) is
  where
    by_tests : (inside same : Bool) → (if inside then (if same then Held else (nodes.window node).state n) else Fresh) ≡ Held
        → is_some (if same then Some no_place else held.place_of node n) ≡ true
    by_tests inside true e = refl
    by_tests true false e = told node n e
    by_tests false false e = not_held Fresh refl e

    by_node : (b : Bool) → (if b then with_state half x Held (nodes.window node) else nodes.window node).state n ≡ Held
        → is_some (if b && (x == n) then Some no_place else held.place_of node n) ≡ true
    by_node b e = grind arith

pub listed_held : (m : NodeId) (xs : List ℕ) (s : KeyState) → is_held s ≡ false → (held : Copies) (nodes : NodeSide) → AreHeldIn held nodes
    → AreHeldIn (without_copies m.0 xs held) (listed_nodes m xs s nodes)
unfolding listed_nodes
listed_held m xs s other held nodes told node n =
    cond_both (m.0 == node) (with_states half xs s (nodes.window node)) (nodes.window node) (λ seen. seen.state n ≡ Held → there)
    (λ _. after_given (λ state. state ≡ Held → there) (is_within half (nodes.window node).top n) (list_any (λ x. x == n) xs)
    (not_held Fresh refl) (λ _. not_held s other) (λ any is. ap is_some (other_number m.0 xs held node n any) ∙ told node n is))
    (λ apart is. ap is_some (other_node m.0 xs held node n apart) ∙ told node n is)
  where
    there : Type 0
    there = is_some ((without_copies m.0 xs held).place_of node n) ≡ true

pub opened_held : (m : NodeId) (opening : Opening) (held : Copies) (nodes : NodeSide) → AreHeldIn held nodes
    → AreHeldIn (without_node m.0 held) (opened_nodes m opening nodes)
unfolding opened_nodes
opened_held m opening held nodes is = search (rules, cond_both, is_some, not_held, cond-false, same_numbers)

-- ---- both sides

-- what each side's windows have as held that side holds
abbrev pub AreTold : NodeTable → HeldPair → Type 0
AreTold nodes held = (firm : Bool) → AreHeldIn (held_in firm held) (nodes_in firm nodes)

pub none_told : (nodes : NodeTable) (held : HeldPair) → ((firm : Bool) → AreNew (nodes_in firm nodes)) → AreTold nodes held
none_told nodes held new firm = none_held (held_in firm held) (nodes_in firm nodes) (new firm)

-- both took a step
pub both_told : {step : NodeSide → NodeSide} {hold : Copies → Copies} {old new : NodeTable} {was is : HeldPair}
    → IsNodesStep step old new → IsHeldStep hold was is
    → ((held : Copies) (nodes : NodeSide) → AreHeldIn held nodes → AreHeldIn (hold held) (step nodes))
    → AreTold old was → AreTold new is
both_told one two three four = search rules

pub kept_told : (firm : Bool) (old new : NodeTable) (was is : HeldPair) → ((side : Bool) → nodes_in side new ≡ nodes_in firm old)
    → ((side : Bool) → held_in side is ≡ held_in firm was) → AreTold old was → AreTold new is
kept_told firm old new was is nodes held told side = rw (held side, nodes side) (told firm)
