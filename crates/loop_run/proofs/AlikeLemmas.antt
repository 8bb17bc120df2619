-- Books of which the same is told, as they are counted one after the other.
use Rattle.std.proofs.Common.{◌≡◌, ◌∙◌, ℕ, zero, suc, ◌+◌, ◌<◌, List, [], ◌∷◌, ◌++◌, get_or, length, map, take, refl, sym, ap, arith}
use Rattle.loop_run.proofs.Names.{AreAlike, BookValue, GatewayCounts, LoopBook, gateway_counts_of, shown, slice_set, take_more, value_of}

abbrev Shown : Type 0
Shown = BookValue × (ℕ × List ℕ)

shown_set : (books : List LoopBook) (k : ℕ) (new d : LoopBook) → shown new ≡ shown (get_or books k d)
    → map shown (slice_set books k new) ≡ map shown books
shown_set [] k new d e = refl
shown_set (book ∷ books) zero new d e = cc
shown_set (book ∷ books) (suc k) new d e = cc (shown_set books k new d e)

-- one of them was looked at
pub alike_set : (old books : List LoopBook) (k : ℕ) (new book : LoopBook) → AreAlike old books → book ≡ get_or books k book
    → shown new ≡ shown book → AreAlike old (slice_set books k new)
alike_set old books k new book alike is same = shown_set _ k new _ (same ∙ ap shown is) ∙ alike

head_or : Shown → List Shown → Shown
head_or d [] = d
head_or d (s ∷ list) = s

rest_of : List Shown → List Shown
rest_of [] = []
rest_of (s ∷ list) = list

by_place : (old books : List LoopBook) (k : ℕ) (d : LoopBook) → map shown books ≡ map shown old → k < length old
    → shown (get_or books k d) ≡ shown (get_or old k d)
unfolding head_or rest_of
by_place [] books k d e less = absurd (omega arith)
by_place (o ∷ old) [] k d e less = absurd (cc)
by_place (o ∷ old) (b ∷ books) zero d e less = cc
by_place (o ∷ old) (b ∷ books) (suc k) d e less = by_place old books k d (cc) (omega arith)

abbrev counted_of : LoopBook → GatewayCounts
counted_of book = gateway_counts_of (value_of book)

counted_both : (xs ys : List LoopBook) → map counted_of (xs ++ ys) ≡ map counted_of xs ++ map counted_of ys
counted_both [] ys = refl
counted_both (x ∷ xs) ys = cc (counted_both xs ys)

-- with the next one
pub counted_next : (old books : List LoopBook) (k : ℕ) (book : LoopBook) → AreAlike old books → k < length old
    → book ≡ get_or books k book
    → map (λ (b : LoopBook). gateway_counts_of (value_of b)) (take k old) ++ gateway_counts_of (value_of book) ∷ []
    ≡ map (λ (b : LoopBook). gateway_counts_of (value_of b)) (take (k + 1) old)
counted_next old books k book alike less is = sym (ap (map counted_of) (take_more old k book less)
    ∙ counted_both (take k old) (get_or old k book ∷ [])
    ∙ ap (λ (s : Shown). map counted_of (take k old) ++ gateway_counts_of s.0 ∷ [])
    (sym (by_place old _ k book alike less) ∙ ap shown (sym is)))
