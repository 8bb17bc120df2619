-- Where a node's starts rise, the start of an epoch tells the epoch.
use Rattle.std.proofs.Common.{◌≡◌, ◌⊎◌, inl, inr, ⊎_elim, ℕ, ◌+◌, ◌<◌, ◌≤◌, ◌==◌, if◌then◌else◌, List, [], ◌∷◌, ◌++◌, length, length-append, map, find, option_map, Option, Some, None, refl, sym, ap, subst, ◌∙◌, arith, eqb-true, eq-eqb, append-nil, Contains, slice_get, suc}
use Rattle.once_core.proofs.Names.{cond-true, Contains-push_cases, enumerate_from, epoch_of, epoch_of-append, epoch_with, filter_map-append, HistoryEntry, map-append, nat_tests, none-some, Opening, opening_by, opening_of-append, openings_of, RisesBy, same_Some, start_of, StartsRise}
use Rattle.once_core.proofs.EachLemmas.{by_each}
use Rattle.once_core.proofs.CaseLemmas.{if_known, by_option}
use Rattle.once_core.proofs.ListLemmas.{get_contains, in_one}

-- ---- the first place of a number

-- the place of what was found
abbrev place_in : Option (ℕ × ℕ) → Option ℕ
place_in o = option_map (λ placed. placed.0) o

-- the first place of a number in a list, counted from k
abbrev first_at : ℕ → ℕ → List ℕ → Option ℕ
first_at k s xs = place_in (find (λ placed. placed.1 == s) (enumerate_from k xs))

found_at : (k s j : ℕ) (xs : List ℕ) → first_at k s xs ≡ Some j → (i : ℕ) × (j ≡ k + i) × (slice_get xs i ≡ Some s)
found_at k s j [] e = absurd (none-some j e)
found_at k s j (x ∷ xs) e =
    if_known (λ (o : Option (ℕ × ℕ)). place_in o ≡ Some j → (i : ℕ) × (j ≡ k + i) × (slice_get (x ∷ xs) i ≡ Some s))
    (x == s)
    (λ is f. (0, omega (arith, same_Some k j f), ap (λ (n : ℕ). Some n) (eqb-true x s is)))
    (λ isnt f. let later = found_at (k + 1) s j xs f in (suc later.0, omega (arith, later.1), later.2)) e

found_stays : (k s j : ℕ) (xs ys : List ℕ) → first_at k s xs ≡ Some j → first_at k s (xs ++ ys) ≡ Some j
found_stays k s j [] ys e = absurd (none-some j e)
found_stays k s j (x ∷ xs) ys e = grind (arith, found_stays (k + 1) s j xs ys)

found_last : (k s y : ℕ) (xs : List ℕ) → first_at k s xs ≡ None
    → first_at k s (xs ++ y ∷ []) ≡ (if y == s then Some (k + length xs) else None)
found_last k s y [] e = grind arith
found_last k s y (x ∷ xs) e = grind (arith, found_last (k + 1) s y xs)

-- ---- the starts of a history

abbrev counters : ℕ → List HistoryEntry → List ℕ
counters node h = 0 ∷ map (λ (o : Opening). o.counter) (openings_of node h)

counters_more : (node : ℕ) (h g : List HistoryEntry) → counters node (h ++ g) ≡ counters node h ++ map (λ (o : Opening). o.counter) (openings_of node g)
counters_more node h g =
    ap (λ (os : List Opening). 0 ∷ map (λ (o : Opening). o.counter) os) (filter_map-append (λ (d : HistoryEntry). opening_by node d.act) h g)
    ∙ ap (λ (xs : List ℕ). 0 ∷ xs) (map-append (λ (o : Opening). o.counter) (openings_of node h) (openings_of node g))

pub epoch_stays : (node start epoch : ℕ) (h g : List HistoryEntry) → epoch_with node start h ≡ Some epoch → epoch_with node start (h ++ g) ≡ Some epoch
epoch_stays node start epoch h g e =
    ap (first_at 0 start) (counters_more node h g)
    ∙ found_stays 0 start epoch (counters node h) (map (λ (o : Opening). o.counter) (openings_of node g)) e

pub start_is_one : (node start other epoch : ℕ) (h : List HistoryEntry) → epoch_with node start h ≡ Some epoch → epoch_with node other h ≡ Some epoch → start ≡ other
start_is_one node start other epoch h e f =
    let one = found_at 0 start epoch (counters node h) e in
    let two = found_at 0 other epoch (counters node h) f in
    let same : one.0 ≡ two.0 = omega (arith, one.1, two.1) in
    same_Some start other (sym one.2 ∙ ap (slice_get (counters node h)) same ∙ two.2)

-- what an entry makes of a node's starts: nothing, or it begins an epoch with a start
record Begins (node : ℕ) (h : List HistoryEntry) (e : HistoryEntry) : Type 0 where
  counter : ℕ
  counters_are : counters node (h ++ e ∷ []) ≡ counters node h ++ counter ∷ []
  start_is : start_of node (h ++ e ∷ []) ≡ counter
  epoch_is : epoch_of node (h ++ e ∷ []) ≡ epoch_of node h + 1
  rises : RisesBy h e.act → start_of node h < counter

record Stays (node : ℕ) (h : List HistoryEntry) (e : HistoryEntry) : Type 0 where
  counters_are : counters node (h ++ e ∷ []) ≡ counters node h
  start_is : start_of node (h ++ e ∷ []) ≡ start_of node h
  epoch_is : epoch_of node (h ++ e ∷ []) ≡ epoch_of node h

by_entry : (node : ℕ) (h : List HistoryEntry) (e : HistoryEntry) → Begins node h e ⊎ Stays node h e
by_entry node h e = by_option (λ (o : Option Opening). Begins node h e ⊎ Stays node h e) (opening_by node e.act)
    (λ none. inr (record {
      counters_are = cc (counters_more node h (e ∷ []), append-nil (counters node h), none);
      start_is = grind (arith, opening_of-append node h e);
      epoch_is = grind (arith, epoch_of-append node h e);
    }))
    (λ o is. inl (record {
      counter = o.counter;
      counters_are = cc (counters_more node h (e ∷ []), is);
      start_is = grind (arith, opening_of-append node h e);
      epoch_is = grind (arith, epoch_of-append node h e);
      rises = λ rising. grind (arith, nat_tests);
    }))

-- the present epoch has the greatest start
record IsLast (node : ℕ) (h : List HistoryEntry) : Type 0 where
  size : length (counters node h) ≡ epoch_of node h + 1
  bound : (s : ℕ) → Contains (counters node h) s → s ≤ start_of node h
  present : first_at 0 (start_of node h) (counters node h) ≡ Some (epoch_of node h)

last_goes_on : (node : ℕ) (h : List HistoryEntry) (e : HistoryEntry) → RisesBy h e.act → IsLast node h → IsLast node (h ++ e ∷ [])
last_goes_on node h e rising last = ⊎_elim
    (λ is. record {
      size = ap length is.counters_are ∙ length-append (counters node h) (is.counter ∷ [])
          ∙ omega (arith, last.size, is.epoch_is);
      bound = λ s among. ⊎_elim
          (λ old. omega (arith, last.bound s old, is.rises rising, is.start_is))
          (λ same. omega (arith, same, is.start_is))
          (Contains-push_cases (counters node h) is.counter s
          (subst (λ (xs : List ℕ). Contains xs s) is.counters_are among));
      present =
          by_option (λ (o : Option ℕ). first_at 0 (start_of node (h ++ e ∷ [])) (counters node (h ++ e ∷ [])) ≡ Some
          (epoch_of node (h ++ e ∷ [])))
          (first_at 0 is.counter (counters node h))
          (λ none. (λ i. first_at 0 (is.start_is i) (is.counters_are i))
          ∙ found_last 0 is.counter is.counter (counters node h) none
          ∙ cond-true (is.counter == is.counter) _ None (eq-eqb is.counter is.counter refl)
          ∙ ap (λ (n : ℕ). Some n) (omega (arith, last.size, is.epoch_is)))
          (λ j there.
          let at = found_at 0 is.counter j (counters node h) there in
          absurd (omega (
            arith,
            is.rises rising,
            last.bound is.counter
                (get_contains (counters node h) at.0 is.counter at.2),
          )));
    })
    (λ is. record {
      size = ap length is.counters_are ∙ last.size ∙ ap (λ (n : ℕ). n + 1) (sym is.epoch_is);
      bound = λ s among.
          omega (arith, last.bound s (subst (λ (xs : List ℕ). Contains xs s) is.counters_are among), is.start_is);
      present = (λ i. first_at 0 (is.start_is i) (is.counters_are i)) ∙ last.present
          ∙ ap (λ (n : ℕ). Some n) (sym is.epoch_is);
    })
    (by_entry node h e)

is_last : (node : ℕ) (h : List HistoryEntry) → StartsRise h → IsLast node h
is_last node = by_each (λ before e. RisesBy before e.act) (IsLast node)
    (record { size = refl; bound = λ s among. omega (arith, in_one 0 s among); present = refl })
    (λ h e before rising last. last_goes_on node h e rising last)

-- a node's present epoch is the one with its present start
pub present_epoch : (node : ℕ) (h : List HistoryEntry) → StartsRise h → epoch_with node (start_of node h) h ≡ Some (epoch_of node h)
present_epoch node h rise = (is_last node h rise).present
