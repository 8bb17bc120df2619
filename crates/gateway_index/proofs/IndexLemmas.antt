-- What the parts of an index make of its sides.
use Rattle.std.proofs.Common.{◌≡◌, ℕ, ◌+◌, ◌^◌, ◌<◌, ◌≤◌, Bool, true, false, if◌then◌else◌, List, [], ◌∷◌, ◌++◌, length, Option, Some, None, is_some, refl, ap, ◌∙◌, zero, suc, ◌-◌, drop, arith, slice_get, rules}
use Rattle.gateway_index.proofs.Names.{acted, any_packet, AreNew, cons_option, Copies, filter_map, fits_with, Follows, half, has_place, held_in, HeldPair, HistoryEntry, IfSome, is_in_window, is_new, IsFreshAbove, IsHeldStep, IsNodesStep, leb-true, ltb-true, may_hold, MayBeKnown, most_copies, narrowed, no_copies, no_totals, NodeId, nodes_in, NodeSide, observed, observed_by, Side, side_after, side_of, Stepped, Totals, totals_after}
use Rattle.gateway_index.specs.declared.index.Index.{Index}
use Rattle.gateway_index.proofs.Tellings.{CountLaw, HeldLaw, PresentLaw, WindowLaw, new_is_free, observed_is, tells_after}
use Rattle.gateway_index.proofs.PairLemmas.{both_are}

-- ---- what is fit

-- What a number's first state asks of the parts of an index.
pub record NewFacts (index : Index) (node : NodeId) (number : ℕ) : Type 0 where
  pub place : MayBeKnown node (nodes_in false index.nodes)
  pub not_below : IfSome ((nodes_in false index.nodes).window node.0).top (λ top. top ≤ number + half)
  pub high : number < 2 ^ 63
  pub free : is_some ((held_in false index.held).place_of node.0 number) ≡ false

pub place_left : (index : Index) (node : NodeId) → has_place (observed_by false index node) ≡ true → MayBeKnown node (nodes_in false index.nodes)
unfolding observed_by side_of
place_left index node is = search (rules, ltb-true)

in_window : (top : Option ℕ) (number : ℕ) → is_in_window top number ≡ true → IfSome top (λ t. t ≤ number + half)
in_window top number is = grind (arith, leb-true)

pub new_facts : (index : Index) (node : NodeId) (number : ℕ) → is_new (observed_by false index node) number ≡ true → NewFacts index node number
unfolding observed_by side_of
new_facts index node number new = search (rules, place_left, in_window, ltb-true, new_is_free)

pub few_held : (index : Index) (node : NodeId) → may_hold (observed_by false index node) ≡ true → (held_in false index.held).count < most_copies
unfolding observed_by side_of
few_held index node may = ltb-true (held_in false index.held).count most_copies may

pub none_there : {A : Type 0} (o : Option A) → is_some o ≡ false → o ≡ None
none_there o e = grind arith

-- ---- no entry

pub fresh_follows : (index : Index) → ((node : ℕ) → IsFreshAbove node []) → ((firm : Bool) → AreNew (nodes_in firm index.nodes))
    → ((firm : Bool) → held_in firm index.held ≡ no_copies) → index.firm ≡ no_totals → index.live ≡ no_totals → (side : Bool) → Follows side index []
unfolding Follows side_of
fresh_follows index above nodes held f l side = search (rules, both_are)

-- ---- steps

-- the nodes, the held copies and the totals took a step
pub stepped : {step : NodeSide → NodeSide} {hold : Copies → Copies} (count : Side → Totals) {old new : Index} → IsNodesStep step old.nodes new.nodes
    → IsHeldStep hold old.held new.held → new.firm ≡ old.firm → new.live ≡ count (side_of false old)
    → Stepped (λ side. record { nodes = step side.nodes; held = hold side.held; totals = count side }) old new
unfolding side_of
stepped count nodes held firm live = search rules

-- the held copies stay
pub held_stays : {held : HeldPair} → IsHeldStep (λ copies. copies) held held
held_stays = record { live = refl; firm = refl }

-- both sides are one side's
pub kept_sides : (firm : Bool) (old new : Index) → ((side : Bool) → nodes_in side new.nodes ≡ nodes_in firm old.nodes)
    → ((side : Bool) → held_in side new.held ≡ held_in firm old.held) → new.firm ≡ (if firm then old.firm else old.live)
    → new.live ≡ (if firm then old.firm else old.live) → (side : Bool) → side_of side new ≡ side_of firm old
unfolding side_of
kept_sides firm old new nodes held f l side = λ i. record { nodes = nodes side i; held = held side i; totals = both_are f l side i }

-- what follows from equal sides
pub follows_same : (side firm : Bool) (old new : Index) → side_of side new ≡ side_of firm old → (h : List HistoryEntry) → Follows firm old h → Follows side new h
unfolding Follows
follows_same side firm old new e h t = rw e t

-- ---- one more entry

pub after_step : (e : HistoryEntry) {old new after : Index} → Stepped (acted e.act) old new → after.nodes ≡ new.nodes → after.held ≡ new.held
    → after.firm ≡ new.firm → after.live ≡ totals_after e new.live → Stepped (side_after e) old after
unfolding side_of
after_step e is nodes held firm live = search (rules, stepped)

pub follows_after : HeldLaw → PresentLaw → CountLaw → WindowLaw → (e : HistoryEntry) {old new : Index}
    → fits_with any_packet (observed_by false old) e.act ≡ true → Stepped (side_after e) old new
    → (h : List HistoryEntry) → length h + 2 < 2 ^ 64 → Follows false old h → Follows false new (h ++ e ∷ [])
unfolding Follows observed_by
follows_after held_law present_law count_law window_law e {old} fit stepped h fits t =
    rw stepped.live (tells_after held_law present_law count_law window_law (side_of false old) h e fits fit t)

-- ---- what an answer asks

pub observed_as : HeldLaw → PresentLaw → (firm : Bool) (index : Index) (h : List HistoryEntry) (node : NodeId)
    → Follows firm index h → observed_by firm index node ≡ narrowed (observed h node)
unfolding observed_by Follows
observed_as held_law present_law firm index h node t = observed_is held_law present_law (side_of firm index) h t node

-- ---- paths, looked up one after the other

-- what is left of a list from a place on
place_on : {X : Type 0} (xs : List X) (i : ℕ) (x : X) → slice_get xs i ≡ Some x → drop i xs ≡ x ∷ drop (i + 1) xs
place_on [] i x at = cc
place_on (y ∷ xs) zero x at = let same : y ≡ x = cc in ap (λ (z : _). z ∷ xs) same
place_on (y ∷ xs) (suc i) x at = place_on xs i x at ∙ ap (λ (n : ℕ). x ∷ drop n (y ∷ xs)) (later i)
  where
    later : (n : ℕ) → suc (n + 1) ≡ suc n + 1
    later n = omega arith

module _ {X Y : Type 0} (f : X → Option Y) (xs : List X) (i : ℕ) (x : X) (at : slice_get xs i ≡ Some x) where
  step : filter_map f (drop i xs) ≡ cons_option (f x) (filter_map f (drop (i + 1) xs))
  step = ap (λ (l : List X). filter_map f l) (place_on xs i x at)

  -- one that gives nothing is passed over
  pub passed : (left : ℕ) → f x ≡ None → slice_get (filter_map f (drop (i + 1) xs)) left ≡ slice_get (filter_map f (drop i xs)) left
  passed left none = rw (step, none) refl

  -- one that gives something is the first
  pub first : (y : Y) → f x ≡ Some y → Some y ≡ slice_get (filter_map f (drop i xs)) 0
  first y some = rw (step, some) refl

  -- or counts as one
  pub counted : (y : Y) (left : ℕ) → f x ≡ Some y → 0 < left
      → slice_get (filter_map f (drop (i + 1) xs)) (left - 1) ≡ slice_get (filter_map f (drop i xs)) left
  counted y left some more = grind (arith, step)
