-- What one step at a place changes of windows.
use Rattle.std.proofs.Common.{◌≡◌, ℕ, zero, suc, ◌+◌, ◌<◌, ◌≤◌, ◌==◌, ◌&&◌, min, Bool, true, false, if◌then◌else◌, List, [], ◌∷◌, ◌++◌, length, length-append, refl, sym, ap, ◌∙◌, arith, inl, inr, ◌^◌, ◌||◌, nat_le, Option, Some, rules}
use Rattle.gateway_index.proofs.Names.{and_cases, AreBlank, AreKeptIn, AreKeptTo, cell_state, cond_both, eqb-true, eqb_tells, false≢true, Fresh, half, IfSome, is_within, IsPairStep, IsStepAt, KeyState, leb-false, leb-true, length-set, list_any-append, ltb-false, ltb-true, MaySet, MaySetEach, nat_lt, nat_tests, ne_eqb, nothing_seen, Seen, seen_at, seen_in, seen_of, slice_index_or, slice_set, Stored, WindowPair, with_each, with_state, with_states}
use Rattle.gateway_index.specs.declared.window_pair.StateGiven.{StateGiven}
use Rattle.std.proofs.Math.Dec.{eqb-suc-suc, eqb-suc-zero, eqb-zero-suc}
use Rattle.gw_base.specs.Lists.{raised}

-- one of two that are the same
pub either : {A : Type 0} (a b : Bool) {x y : A} → (a ≡ false → x ≡ y) → (b ≡ false → x ≡ y) → (if a then x else y) ≡ (if b then x else y)
either a b one other = grind arith

-- what is the same of both sides
pub same_sides : {A : Type 0} (of : Bool → A) → of true ≡ of false → (a b : Bool) → of a ≡ of b
same_sides of same a b = grind arith

-- what both are
pub both_are : {A : Type 0} {x y z : A} → x ≡ z → y ≡ z → (side : Bool) → (if side then x else y) ≡ z
both_are one other side = grind arith

-- the window at a place is that of the pair there
place_there : (firm : Bool) (pairs : List WindowPair) (k : ℕ) (d : WindowPair) → k < length pairs → seen_at firm pairs k ≡ seen_in firm (slice_index_or pairs k d)
unfolding seen_at
place_there firm [] k d inside = absurd (omega (arith, inside))
place_there firm (pair ∷ pairs) zero d inside = refl
place_there firm (pair ∷ pairs) (suc k) d inside = place_there firm pairs k d (omega (arith, inside))

-- the window at a place is that of the pair there
pub seen_there : (firm : Bool) (pairs : List WindowPair) {k : ℕ} {pair : WindowPair} → k < length pairs → pair ≡ slice_index_or pairs k pair
    → seen_at firm pairs k ≡ seen_in firm pair
seen_there firm pairs {k} {pair} inside is = place_there firm pairs k pair inside ∙ ap (λ (p : WindowPair). seen_in firm p) (sym is)

pub seen_behind : (firm : Bool) (pairs : List WindowPair) (k : ℕ) → length pairs ≤ k → seen_at firm pairs k ≡ nothing_seen
unfolding seen_at
seen_behind firm [] k past = refl
seen_behind firm (pair ∷ pairs) zero past = absurd (omega (arith, past))
seen_behind firm (pair ∷ pairs) (suc k) past = seen_behind firm pairs k (omega (arith, past))

-- another pair at a place
pub seen_set : (firm : Bool) (pairs : List WindowPair) (place k : ℕ) (pair : WindowPair) → place < length pairs
    → seen_at firm (slice_set pairs place pair) k ≡ (if place == k then seen_in firm pair else seen_at firm pairs k)
unfolding seen_at
seen_set firm [] place k pair inside = absurd (omega (arith, inside))
seen_set firm (one ∷ pairs) zero zero pair inside = refl
seen_set firm (one ∷ pairs) zero (suc k) pair inside = rw (eqb-zero-suc k) refl
seen_set firm (one ∷ pairs) (suc place) zero pair inside = rw (eqb-suc-zero place) refl
seen_set firm (one ∷ pairs) (suc place) (suc k) pair inside = rw (eqb-suc-suc place k) (seen_set firm pairs place k pair (omega (arith, inside)))

-- a step of the pair at a place
pub stepped_at : {step : Seen → Seen} {pairs : List WindowPair} {place : ℕ} {pair new : WindowPair} → place < length pairs
    → pair ≡ slice_index_or pairs place pair → IsPairStep step pair new → IsStepAt place step pairs (slice_set pairs place new)
stepped_at {step} {pairs} {place} {pair} {new} inside is s = record {
  count = length-set pairs place new;
  live = λ k. seen_set false pairs place k new inside ∙ elim (eqb_tells place k) [
    | inl at ↦ rw at.0 (s.live ∙ ap step (there false k at.1))
    | inr apart ↦ rw apart.0 refl
  ];
  firm = λ k. seen_set true pairs place k new inside ∙ cond_both (place == k) (seen_in true new) (seen_at true pairs k) (λ seen. seen ≡ seen_at true pairs k)
      (λ e. s.firm ∙ there true k (eqb-true place k e)) (λ _. refl);
}
  where
    there : (firm : Bool) (k : ℕ) → place ≡ k → seen_in firm pair ≡ seen_at firm pairs k
    there firm k at = sym (seen_there firm pairs inside is) ∙ ap (λ (j : ℕ). seen_at firm pairs j) at

-- ---- making

pub blank_none : AreBlank 0 []
unfolding seen_at
blank_none = record { count = refl; blank = λ firm k. refl }

blank_push : (firm : Bool) (pairs : List WindowPair) (pair : WindowPair) → seen_in firm pair ≡ nothing_seen → ((j : ℕ) → seen_at firm pairs j ≡ nothing_seen) → (k : ℕ) → seen_at firm (pairs ++ pair ∷ []) k ≡ nothing_seen
unfolding seen_at
blank_push firm [] pair one all zero = one
blank_push firm [] pair one all (suc k) = refl
blank_push firm (p ∷ pairs) pair one all zero = all 0
blank_push firm (p ∷ pairs) pair one all (suc k) = blank_push firm pairs pair one (λ j. all (suc j)) k

pub blank_more : (count : ℕ) (pairs : List WindowPair) (pair : WindowPair) → AreBlank count pairs → ((firm : Bool) → seen_in firm pair ≡ nothing_seen) → AreBlank (count + 1) (pairs ++ pair ∷ [])
blank_more count pairs pair blank one = search (rules, length-append, blank_push)

-- ---- both sides one side's

pub kept_none : (firm : Bool) (from : ℕ) (pairs : List WindowPair) → AreKeptIn from from firm pairs pairs
kept_none firm from pairs = search (rules, cond_both, leb-true, ltb-true)

-- one more place is kept
kept_step : {A : Type 0} (from count k : ℕ) (now new kept other : A) → from ≤ count → (count ≡ k → new ≡ kept)
    → now ≡ (if nat_le from k && nat_lt k count then kept else other)
    → (if count == k then new else now) ≡ (if nat_le from k && nat_lt k (count + 1) then kept else other)
kept_step from count k now new kept other order here so_far = grind (arith, nat_tests)

pub kept_more : {firm : Bool} {from count : ℕ} {old now : List WindowPair} {pair : WindowPair} (new : WindowPair) → from ≤ count → count < length now
    → AreKeptIn from count firm old now → pair ≡ slice_index_or now count pair → ((side : Bool) → seen_in side new ≡ seen_in firm pair)
    → AreKeptIn from (count + 1) firm old (slice_set now count new)
kept_more {firm} {from} {count} {old} {now} {pair} new order inside so_far is one = record {
  count = length-set now count new ∙ so_far.count;
  kept = λ side k. seen_set side now count k new inside ∙ kept_step from count k (seen_at side now k) (seen_in side new) (seen_at firm old k) (seen_at side old k)
      order (λ same. here side ∙ ap (λ (j : ℕ). seen_at firm old j) same) (so_far.kept side k);
}
  where
    here : (side : Bool) → seen_in side new ≡ seen_at firm old count
    here side = one side ∙ sym (seen_there firm now inside is) ∙ so_far.kept firm count
        ∙ either (nat_le from count && nat_lt count count) true (λ _. refl) (λ _. refl)

-- where both sides are the same around the places that are kept, all are
pub kept_around : {firm : Bool} {from end : ℕ} {old new : List WindowPair} → ((k : ℕ) → k < from → seen_at true old k ≡ seen_at false old k)
    → ((k : ℕ) → end ≤ k → seen_at true old k ≡ seen_at false old k) → AreKeptIn from end firm old new → AreKeptTo (length old) firm old new
kept_around {firm} {from} {end} {old} before behind kept = record {
  count = kept.count;
  kept = λ side k. kept.kept side k ∙ either (nat_le from k && nat_lt k end) (nat_lt k (length old))
      (λ e. elim (and_cases (nat_le from k) (nat_lt k end) e) [ inl low ↦ same side k (before k (leb-false from k low)) | inr past ↦ same side k (behind k (ltb-false k end past)) ])
      (λ e. none_behind side k (ltb-false k (length old) e));
}
  where
    same : (side : Bool) (k : ℕ) → seen_at true old k ≡ seen_at false old k → seen_at firm old k ≡ seen_at side old k
    same side k e = same_sides (λ a. seen_at a old k) e firm side

    none_behind : (side : Bool) (k : ℕ) → length old ≤ k → seen_at firm old k ≡ seen_at side old k
    none_behind side k past = seen_behind firm old k past ∙ sym (seen_behind side old k past)

-- both sides are the same behind the places that may differ, and behind all
pub same_behind : {end least : ℕ} (pairs : List WindowPair) → least ≡ min end (length pairs)
    → ((k : ℕ) → end ≤ k → seen_at true pairs k ≡ seen_at false pairs k) → (k : ℕ) → least ≤ k → seen_at true pairs k ≡ seen_at false pairs k
same_behind pairs is behind k past = grind (arith, seen_behind)

-- a step at a place leaves both sides the same where they were, but there
pub same_after : {step : Seen → Seen} {place : ℕ} {old new : List WindowPair} (k : ℕ) → IsStepAt place step old new → (place ≡ k → ⊥)
    → seen_at true old k ≡ seen_at false old k → seen_at true new k ≡ seen_at false new k
same_after {step} {place} k s apart same = s.firm k ∙ same ∙ sym (s.live k ∙ rw (ne_eqb place k apart) refl)

pub blank_same : (count : ℕ) (pairs : List WindowPair) → AreBlank count pairs → (k : ℕ) → seen_at true pairs k ≡ seen_at false pairs k
blank_same count pairs blank k = blank.blank true k ∙ sym (blank.blank false k)

-- all are kept
pub kept_all : {firm : Bool} {old new : List WindowPair} → AreKeptTo (length old) firm old new → (side : Bool) (k : ℕ) → seen_at side new k ≡ seen_at firm old k
kept_all kept side k = grind (arith, either, ltb-false, seen_behind)

pub kept_same : {firm : Bool} {old new : List WindowPair} → AreKeptTo (length old) firm old new → (k : ℕ) → seen_at true new k ≡ seen_at false new k
kept_same kept k = kept_all kept true k ∙ sym (kept_all kept false k)

-- ---- one pair

-- a step more behind those that were noted
more_given : (all : List StateGiven) (given : StateGiven) (seen : Seen) → MaySetEach all seen → MaySet given.number (with_each all seen)
    → MaySetEach (all ++ given ∷ []) seen × (with_each (all ++ given ∷ []) seen ≡ with_state half given.number given.state (with_each all seen))
more_given [] given seen may one = ((one, tt), refl)
more_given (g ∷ all) given seen may one =
    let rest = more_given all given (with_state half g.number g.state seen) may.1 one in ((may.0, rest.0), rest.1)

-- the live side took the step, and it is noted
pub noted : (all now : List StateGiven) (given : StateGiven) (firm live after : Seen) → now ≡ all ++ given ∷ [] → after ≡ with_state half given.number given.state live
    → MaySet given.number live → MaySetEach all firm × (with_each all firm ≡ live) → MaySetEach now firm × (with_each now firm ≡ after)
noted all now given firm live after more step may agree =
    rw (more, step, ← agree.1) (more_given all given firm agree.0 (rw agree.1 may))

-- ---- states of numbers that a window holds, given one behind the other

same_seen : (one other : Seen) → one.top ≡ other.top → ((n : ℕ) → one.state n ≡ other.state n) → one ≡ other
same_seen one other t s = λ i. record { top = t i; state = λ n. s n i }

-- ---- a number that the window holds

-- it isn't above the greatest one, and may be given a state
held_below : (t number : ℕ) → is_within half (Some t) number ≡ true → (t ≤ number + half) × (number ≤ t)
held_below t number held = grind (arith, leb-true)

pub may_set_held : (top : Option ℕ) (number : ℕ) → is_within half top number ≡ true → IfSome top (λ t. t < 2 ^ 63)
    → IfSome top (λ t. t ≤ number + half) × (number < 2 ^ 63)
may_set_held top number held low = grind (arith, held_below)

raised_held : (top : Option ℕ) (number : ℕ) → is_within half top number ≡ true → raised top number ≡ top
raised_held top number held = grind (arith, held_below)

-- what a window says, and once some of its numbers were given states
in_list : {A : Type 0} (within listed : Bool) (given was none : A)
    → (if within then (if listed then given else was) else none) ≡ (if within then (if listed || false then given else was) else none)
in_list within listed given was none = grind arith

in_none : {A : Type 0} (within : Bool) (was none : A) → (if within then was else none) ≡ (if within then (if within then was else none) else none)
in_none within was none = grind arith

in_more : {A : Type 0} (within first last : Bool) (given was none : A)
    → (if within then (if last || false then given else (if within then (if first then given else was) else none)) else none)
    ≡ (if within then (if first || (last || false) then given else was) else none)
in_more within first last given was none = grind arith

-- and that is the same as to a list of it alone
state_of_one : (number : ℕ) (s : KeyState) (seen : Seen) → is_within half seen.top number ≡ true
    → with_state half number s seen ≡ with_states half (number ∷ []) s seen
state_of_one number s seen held = grind (arith, same_seen, raised_held, in_list)

-- ---- none

states_of_none : (s : KeyState) (stored : Stored) → seen_of half stored ≡ with_states half [] s (seen_of half stored)
states_of_none s stored = same_seen _ _ refl (λ n. in_none (is_within half stored.top n) (cell_state half stored.top stored.at stored.cells n) Fresh)

state_of_other : (number : ℕ) (s : KeyState) (stored : Stored) → is_within half stored.top number ≡ false → seen_of half stored ≡ with_states half (number ∷ []) s (seen_of half stored)
state_of_other number s stored out = same_seen _ _ refl (λ n. at n (is_within half stored.top n) (number == n) refl refl)
  where
    at : (n : ℕ) (w b : Bool) → is_within half stored.top n ≡ w → (number == n) ≡ b
        → (if w then cell_state half stored.top stored.at stored.cells n else Fresh)
        ≡ (if w then (if b || false then s else (if w then cell_state half stored.top stored.at stored.cells n else Fresh)) else Fresh)
    at n false b e f = refl
    at n true false e f = refl
    at n true true e f = absurd (false≢true (sym out ∙ ap (λ (k : ℕ). is_within half stored.top k) (eqb-true number n f) ∙ e))

-- ---- one more

states_of_more : (numbers : List ℕ) (number : ℕ) (s : KeyState) (seen : Seen)
    → with_states half (number ∷ []) s (with_states half numbers s seen) ≡ with_states half (numbers ++ number ∷ []) s seen
states_of_more numbers number s seen = grind (arith, same_seen, in_more, list_any-append)

-- ---- steps of a pair

pub held_stepped : (number : ℕ) (s : KeyState) {old new : WindowPair} → is_within half (seen_of half old.live).top number ≡ true
    → IsPairStep (with_state half number s) old new → IsPairStep (with_states half (number ∷ []) s) old new
unfolding seen_in
held_stepped number s {old} held step = record { live = step.live ∙ state_of_one number s (seen_of half old.live) held; firm = step.firm }

pub other_stayed : (number : ℕ) (s : KeyState) (old : WindowPair) → is_within half (seen_of half old.live).top number ≡ false
    → IsPairStep (with_states half (number ∷ []) s) old old
unfolding seen_in
other_stayed number s old out = record { live = state_of_other number s old.live out; firm = refl }

pub none_stepped : (s : KeyState) (old : WindowPair) → IsPairStep (with_states half [] s) old old
unfolding seen_in
none_stepped s old = record { live = states_of_none s old.live; firm = refl }

pub more_stepped : (numbers : List ℕ) (number : ℕ) (s : KeyState) {old now new : WindowPair} → IsPairStep (with_states half numbers s) old now
    → IsPairStep (with_states half (number ∷ []) s) now new → IsPairStep (with_states half (numbers ++ number ∷ []) s) old new
more_stepped numbers number s {old} so_far one = record {
  live = one.live ∙ ap (with_states half (number ∷ []) s) so_far.live ∙ states_of_more numbers number s (seen_in false old);
  firm = one.firm ∙ so_far.firm;
}
