-- What a window knows, restated.
use Rattle.std.proofs.Common.{◌≡◌, ℕ, ◌+◌, ◌-◌, ◌<◌, ◌≤◌, max, ◌==◌, ◌||◌, Bool, true, false, if◌then◌else◌, nat_le, nat_lt, List, [], ◌∷◌, ◌++◌, slice_index_or, Option, Some, None, refl, sym, ap, subst, ◌∙◌, inl, inr, arith}
use Rattle.std.specs.List.{list_any}
use Rattle.std.specs.Prelude.{IfSome}
use Rattle.std.proofs.lemmas.Bool.{and_parts, and_right, cases_lt, eq-eqb, eqb-true, eqb-false, ne_eqb, false≢true, le-leb, leb-true, lt-leb, le-ltb, lt-ltb}
use Rattle.std.proofs.lemmas.List.Folds.{list_any-append}
use Rattle.gw_base.specs.Lists.{raised}
use Rattle.gw_base.specs.declared.key_state.KeyState.{KeyState}
use Rattle.gw_base.specs.declared.key_state.KeyState.TheVariants.{Fresh}
use Rattle.seq_window.specs.Seen.{Seen, is_within, moved_to, with_state, with_states, within}
use Rattle.seq_window.specs.Stored.{HasCells, IsMovedUp, cell_below, cell_state, seen_of}
use Rattle.seq_window.proofs.RingLemmas.{cells_apart}

pub same_seen : (one other : Seen) → one.top ≡ other.top → ((n : ℕ) → one.state n ≡ other.state n) → one ≡ other
same_seen one other t s = λ i. record { top = t i; state = λ n. s n i }

-- ---- which numbers a window holds

pub held_facts : (half top n : ℕ) → is_within half (Some top) n ≡ true → (top ≤ n + half) × (n ≤ top)
held_facts half top n e =
    let b = and_parts (nat_le top (n + half)) (nat_le n top) e in
    (leb-true top (n + half) b.0, leb-true n top b.1)

pub held_by_facts : (half top n : ℕ) → top ≤ n + half → n ≤ top → is_within half (Some top) n ≡ true
held_by_facts half top n a b = rw (le-leb top (n + half) a, le-leb n top b) refl

pub not_held_above : (half top n : ℕ) → top < n → is_within half (Some top) n ≡ false
not_held_above half top n a = and_right (nat_le top (n + half)) (nat_le n top) (lt-leb n top a)

-- a number is above the greatest one, where there is one
abbrev pub IsAbove : Option ℕ → ℕ → Type 0
IsAbove top n = IfSome top (λ t. t < n)

-- a number that the window holds once it moved up, and not before, is above it
pub new_is_above : (half : ℕ) (top : Option ℕ) (x n : ℕ) → is_within half (raised top x) n ≡ true → is_within half top n ≡ false → IsAbove top n
new_is_above half None x n e f = tt
new_is_above half (Some t) x n e f =
    let b = held_facts half (max t x) n e in
    elim (cases_lt t n) [
      | inl lt ↦ lt
      | inr le ↦ absurd (false≢true (sym f ∙ held_by_facts half t n (omega (arith, b.0)) le))
    ]

-- the cell here was set, and no other changed
abbrev pub IsSet : ℕ → KeyState → List KeyState → List KeyState → Type 0
IsSet cell s old new = (k : ℕ) → slice_index_or new k Fresh ≡ (if cell == k then s else slice_index_or old k Fresh)

-- ---- windows over windows

-- what is fresh above the greatest number stays as it is where the window moves up
pub with_one : (half : ℕ) (top : Option ℕ) (f : ℕ → KeyState) (x : ℕ) (s : KeyState) → ((n : ℕ) → IsAbove top n → f n ≡ Fresh)
    → within half (raised top x) (λ n. if x == n then s else f n) ≡ with_state half x s (within half top f)
with_one half top f x s fresh = same_seen _ _ refl (λ n. at n (is_within half (raised top x) n) refl)
  where
    old : (n : ℕ) (w : Bool) → is_within half top n ≡ w → is_within half (raised top x) n ≡ true → f n ≡ (if w then f n else Fresh)
    old n true e held = refl
    old n false e held = fresh n (new_is_above half top x n held e)

    at : (n : ℕ) (w : Bool) → is_within half (raised top x) n ≡ w
        → (if w then (if x == n then s else f n) else Fresh) ≡ (if w then (if x == n then s else (if is_within half top n then f n else Fresh)) else Fresh)
    at n true e = ap (λ (k : KeyState). if x == n then s else k) (old n (is_within half top n) refl e)
    at n false e = refl

raised_twice : (top : Option ℕ) (x : ℕ) → raised (raised top x) x ≡ raised top x
raised_twice None x = λ i. Some (same i)
  where
    same : max x x ≡ x
    same = omega arith
raised_twice (Some t) x = λ i. Some (same i)
  where
    same : max (max t x) x ≡ max t x
    same = omega arith

pub moved_first : (half x : ℕ) (s : KeyState) (seen : Seen) → with_state half x s (moved_to half x seen) ≡ with_state half x s seen
moved_first half x s seen = same_seen _ _ (raised_twice seen.top x) (λ n. at n)
  where
    go : (n : ℕ) (w : Bool) → (if w then (if x == n then s else (if w then seen.state n else Fresh)) else Fresh) ≡ (if w then (if x == n then s else seen.state n) else Fresh)
    go n true = refl
    go n false = refl

    at : (n : ℕ) → (with_state half x s (moved_to half x seen)).state n ≡ (with_state half x s seen).state n
    at n = ap (λ (o : Option ℕ). if is_within half o n then (if x == n then s else (if is_within half (raised seen.top x) n then seen.state n else Fresh)) else Fresh) (raised_twice seen.top x)
        ∙ go n (is_within half (raised seen.top x) n)

-- ---- states of several numbers

raised_held : (half : ℕ) (top : Option ℕ) (x : ℕ) → is_within half top x ≡ true → raised top x ≡ top
raised_held half None x e = absurd (false≢true e)
raised_held half (Some t) x e =
    let b = held_facts half t x e in
    let same : max t x ≡ t = omega (arith, b.1) in
    λ i. Some (same i)

pub one_state_more : (half : ℕ) (xs : List ℕ) (x : ℕ) (s : KeyState) (seen : Seen) → is_within half seen.top x ≡ true
    → with_state half x s (with_states half xs s seen) ≡ with_states half (xs ++ x ∷ []) s seen
one_state_more half xs x s seen held = same_seen _ _ (raised_held half seen.top x held) (λ n. at n)
  where
    go : (n : ℕ) (w a b : Bool) → (if w then (if b then s else (if w then (if a then s else seen.state n) else Fresh)) else Fresh)
        ≡ (if w then (if a || (b || false) then s else seen.state n) else Fresh)
    go n true true true = refl
    go n true true false = refl
    go n true false true = refl
    go n true false false = refl
    go n false a b = refl

    at : (n : ℕ) → (with_state half x s (with_states half xs s seen)).state n ≡ (with_states half (xs ++ x ∷ []) s seen).state n
    at n = ap (λ (o : Option ℕ). if is_within half o n then (if x == n then s else (with_states half xs s seen).state n) else Fresh) (raised_held half seen.top x held)
        ∙ go n (is_within half seen.top n) (list_any (λ y. y == n) xs) (x == n)
        ∙ ap (λ (b : Bool). if is_within half seen.top n then (if b then s else seen.state n) else Fresh) (sym (list_any-append (λ y. y == n) xs (x ∷ [])))

pub no_state_more : (half : ℕ) (xs : List ℕ) (x : ℕ) (s : KeyState) (seen : Seen) → is_within half seen.top x ≡ false
    → with_states half xs s seen ≡ with_states half (xs ++ x ∷ []) s seen
no_state_more half xs x s seen out = same_seen _ _ refl (λ n. at n (is_within half seen.top n) (x == n) refl refl)
  where
    go : (n : ℕ) (a : Bool) → (if a then s else seen.state n) ≡ (if a || (false || false) then s else seen.state n)
    go n true = refl
    go n false = refl

    at : (n : ℕ) (w b : Bool) → is_within half seen.top n ≡ w → (x == n) ≡ b
        → (if w then (if list_any (λ y. y == n) xs then s else seen.state n) else Fresh) ≡ (if w then (if list_any (λ y. y == n) (xs ++ x ∷ []) then s else seen.state n) else Fresh)
    at n false b e f = refl
    at n true true e f = absurd (false≢true (sym out ∙ ap (λ (k : ℕ). is_within half seen.top k) (eqb-true x n f) ∙ e))
    at n true false e f = go n (list_any (λ y. y == n) xs)
        ∙ ap (λ (b : Bool). if b then s else seen.state n) (sym (list_any-append (λ y. y == n) xs (x ∷ []) ∙ ap (λ (b : Bool). list_any (λ y. y == n) xs || (b || false)) f))

-- ---- the cells

pub put_is : (half top at x : ℕ) (s : KeyState) (cells new : List KeyState) → at < half + 1 → is_within half (Some top) x ≡ true
    → IsSet (cell_below (half + 1) at (top - x)) s cells new
    → within half (Some top) (cell_state half (Some top) at new) ≡ with_state half x s (within half (Some top) (cell_state half (Some top) at cells))
put_is half top at x s cells new inside held is = same_seen _ _ (sym (raised_held half (Some top) x held)) (λ n. go n (is_within half (Some top) n) (x == n) refl refl ∙ back n)
  where
    x_facts : (top ≤ x + half) × (x ≤ top)
    x_facts = held_facts half top x held

    here : slice_index_or new (cell_below (half + 1) at (top - x)) Fresh ≡ s
    here = is (cell_below (half + 1) at (top - x)) ∙ rw (eq-eqb (cell_below (half + 1) at (top - x)) (cell_below (half + 1) at (top - x)) refl) refl

    there : (n : ℕ) → top ≤ n + half → n ≤ top → (x ≡ n → ⊥) → slice_index_or new (cell_below (half + 1) at (top - n)) Fresh ≡ slice_index_or cells (cell_below (half + 1) at (top - n)) Fresh
    there n a b ne = is (cell_below (half + 1) at (top - n))
        ∙ rw (ne_eqb (cell_below (half + 1) at (top - x)) (cell_below (half + 1) at (top - n))
        (λ e. let same : top - x ≡ top - n = cells_apart (half + 1) at (top - x) (top - n) inside (omega (arith, x_facts.0)) (omega (arith, a)) e in
        ne (omega (arith, same, b, x_facts.1)))) refl

    go : (n : ℕ) (w b : Bool) → is_within half (Some top) n ≡ w → (x == n) ≡ b
        → (if w then slice_index_or new (cell_below (half + 1) at (top - n)) Fresh else Fresh)
        ≡ (if w then (if b then s else (if w then slice_index_or cells (cell_below (half + 1) at (top - n)) Fresh else Fresh)) else Fresh)
    go n false b e f = refl
    go n true true e f = ap (λ (k : ℕ). slice_index_or new (cell_below (half + 1) at (top - k)) Fresh) (sym (eqb-true x n f)) ∙ here
    go n true false e f = let b = held_facts half top n e in there n b.0 b.1 (eqb-false x n f)

    back : (n : ℕ) → (if is_within half (Some top) n then (if x == n then s else (if is_within half (Some top) n then slice_index_or cells (cell_below (half + 1) at (top - n)) Fresh else Fresh)) else Fresh)
        ≡ (with_state half x s (within half (Some top) (cell_state half (Some top) at cells))).state n
    back n = ap (λ (o : Option ℕ). if is_within half o n then (if x == n then s else (within half (Some top) (cell_state half (Some top) at cells)).state n) else Fresh) (sym (raised_held half (Some top) x held))

pub moved_is : (half top x at new_at : ℕ) (cells new : List KeyState) → top < x → IsMovedUp (half + 1) (x - top) at new_at cells new
    → within half (Some x) (cell_state half (Some x) new_at new) ≡ moved_to half x (within half (Some top) (cell_state half (Some top) at cells))
moved_is half top x at new_at cells new up m = same_seen _ _ (λ i. Some (highest i)) (λ n. at_n n)
  where
    highest : x ≡ max top x
    highest = omega (arith, up)

    old : ℕ → KeyState
    old n = if is_within half (Some top) n then slice_index_or cells (cell_below (half + 1) at (top - n)) Fresh else Fresh

    read : (n : ℕ) → is_within half (Some x) n ≡ true → slice_index_or new (cell_below (half + 1) new_at (x - n)) Fresh ≡ old n
    read n e =
        let b = held_facts half x n e in
        m.cells (x - n) (omega (arith, b.0))
        ∙ elim (cases_lt top n) as (λ z. (if nat_lt (x - n) (x - top) then Fresh else slice_index_or cells (cell_below (half + 1) at (x - n - (x - top))) Fresh)
        ≡ (if is_within half (Some top) n then slice_index_or cells (cell_below (half + 1) at (top - n)) Fresh else Fresh)) [
          | inl lt ↦ rw (lt-ltb (x - n) (x - top) (omega (arith, lt, b.1, up)), not_held_above half top n lt) refl
          | inr le ↦ rw (le-ltb (x - n) (x - top) (omega (arith, le, up)), held_by_facts half top n (omega (arith, b.0, up)) le)
              (ap (λ (k : ℕ). slice_index_or cells (cell_below (half + 1) at k) Fresh) (omega (arith, le, up, b.1)))
        ]

    go : (n : ℕ) (w : Bool) → is_within half (Some x) n ≡ w → (if w then slice_index_or new (cell_below (half + 1) new_at (x - n)) Fresh else Fresh) ≡ (if w then old n else Fresh)
    go n true e = read n e
    go n false e = refl

    at_n : (n : ℕ) → (within half (Some x) (cell_state half (Some x) new_at new)).state n ≡ (moved_to half x (within half (Some top) (cell_state half (Some top) at cells))).state n
    at_n n = go n (is_within half (Some x) n) refl ∙ ap (λ (k : ℕ). if is_within half (Some k) n then old n else Fresh) highest

-- ---- what is stored

pub put_stored : (half top : ℕ) (o : Option ℕ) (at cell x : ℕ) (s : KeyState) (cells new : List KeyState) → o ≡ Some top → HasCells half o at cells → is_within half o x ≡ true
    → cell ≡ cell_below (half + 1) at (top - x) → IsSet cell s cells new
    → seen_of half (record { top = o; at = at; cells = new }) ≡ with_state half x s (seen_of half (record { top = o; at = at; cells = cells }))
put_stored half top None at cell x s cells new e has held is set = absurd (false≢true held)
put_stored half top (Some t) at cell x s cells new e has held is set =
    let same : t ≡ top = cc in
    put_is half t at x s cells new has.1 held (subst (λ (k : ℕ). IsSet k s cells new) (is ∙ ap (λ (k : ℕ). cell_below (half + 1) at (k - x)) (sym same)) set)

pub moved_stored : (half top : ℕ) (o : Option ℕ) (at new_at x : ℕ) (cells new : List KeyState) → o ≡ Some top → top < x → IsMovedUp (half + 1) (x - top) at new_at cells new
    → seen_of half (record { top = Some x; at = new_at; cells = new }) ≡ moved_to half x (seen_of half (record { top = o; at = at; cells = cells }))
moved_stored half top None at new_at x cells new e up m = absurd (cc)
moved_stored half top (Some t) at new_at x cells new e up m =
    let same : t ≡ top = cc in
    moved_is half t x at new_at cells new (omega (arith, same, up)) (subst (λ (k : ℕ). IsMovedUp (half + 1) (x - k) at new_at cells new) (sym same) m)

-- ---- one number more of a list

pub one_after : (half : ℕ) (xs : List ℕ) (x : ℕ) (s : KeyState) (seen mid new : Seen) → mid ≡ with_states half xs s seen → is_within half mid.top x ≡ true → new ≡ with_state half x s mid
    → new ≡ with_states half (xs ++ x ∷ []) s seen
one_after half xs x s seen mid new so held is =
    is ∙ ap (λ (w : Seen). with_state half x s w) so ∙ one_state_more half xs x s seen (ap (λ (w : Seen). is_within half w.top x) (sym so) ∙ held)

pub none_after : (half : ℕ) (xs : List ℕ) (x : ℕ) (s : KeyState) (seen mid : Seen) → mid ≡ with_states half xs s seen → is_within half mid.top x ≡ false
    → mid ≡ with_states half (xs ++ x ∷ []) s seen
none_after half xs x s seen mid so out = so ∙ no_state_more half xs x s seen (ap (λ (w : Seen). is_within half w.top x) (sym so) ∙ out)
