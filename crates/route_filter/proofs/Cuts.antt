-- Lemmas on texts that are cut at a separator, and on the words of a line.
use Rattle.std.proofs.Common.{◌≡◌, ℕ, suc, ◌+◌, ◌<◌, ◌≤◌, Bool, true, false, ◌==◌, if◌then◌else◌, not, filter, List, [], ◌∷◌, ◌++◌, length, take, drop, slice_index, Option, Some, None, option_map, refl, ap, sym, ◌∙◌, arith, append_assoc, subst, zero}
use Rattle.std.proofs.lemmas.Bool.{false_from_ne_true}
use Rattle.std.specs.List.{onto_first, slice_split}
use Rattle.route_filter.specs.Words.{cut_at, is_empty, with_word, words_of}

-- the octet at this place is the separator, and none before it
cut_there : (separator : ℕ) (xs : List ℕ) (k : ℕ) → k < length xs →
    ((j : ℕ) → 0 ≤ j → j < k → (slice_index xs j == separator) ≡ true → ⊥) → (slice_index xs k == separator) ≡ true →
    cut_at separator xs ≡ Some (take k xs, drop (k + 1) xs)
cut_there separator [] k h before is = absurd (omega arith)
cut_there separator (x ∷ xs) zero h before is = rw is refl
cut_there separator (x ∷ xs) (suc k) h before is =
    let other : (x == separator) ≡ false = false_from_ne_true (x == separator) (before 0 (omega arith) (omega arith)) in
    let later = cut_there separator xs k (omega arith) (λ j low high. before (suc j) (omega arith) (omega arith)) is in
    let here : suc k + 1 ≡ suc (k + 1) = omega arith in
    rw (here, other) (ap (option_map (λ parts. (x ∷ parts.0, parts.1))) later)

-- the first place of the separator is known
pub cut_found : (separator : ℕ) (xs : List ℕ) (k : ℕ) (before later : List ℕ) → k < length xs →
    ((j : ℕ) → 0 ≤ j → j < k → (slice_index xs j == separator) ≡ true → ⊥) → (slice_index xs k == separator) ≡ true →
    before ≡ take k xs → later ≡ drop (k + 1) xs → Some (before, later) ≡ cut_at separator xs
cut_found separator xs k before later h none is first second =
    rw first (rw second (sym (cut_there separator xs k h none is)))

-- it stands nowhere
pub cut_missing : (separator : ℕ) (xs : List ℕ) → ((j : ℕ) → 0 ≤ j → j < length xs → (slice_index xs j == separator) ≡ true → ⊥) →
    cut_at separator xs ≡ None
cut_missing separator [] nowhere = refl
cut_missing separator (x ∷ xs) nowhere =
    let other : (x == separator) ≡ false = false_from_ne_true (x == separator) (nowhere 0 (omega arith) (omega arith)) in
    let later = cut_missing separator xs (λ j low high. nowhere (suc j) (omega arith) (omega arith)) in
    rw other (ap (option_map (λ parts. (x ∷ parts.0, parts.1))) later)

-- Words.

abbrev pub spaces : List ℕ → List (List ℕ)
spaces xs = slice_split (λ x. x == 32) xs

abbrev pub SplitIs : List ℕ → Option (List ℕ × List ℕ) → Type 0
SplitIs xs None = spaces xs ≡ xs ∷ []
SplitIs xs (Some p) = spaces xs ≡ p.0 ∷ spaces p.1

split_after : (x : ℕ) (xs : List ℕ) (b : Bool) → (x == 32) ≡ b → (parts : Option (List ℕ × List ℕ)) → SplitIs xs parts →
    SplitIs (x ∷ xs) (if b then Some ([], xs) else option_map (λ p. (x ∷ p.0, p.1)) parts)
split_after x xs true e parts h = rw e refl
split_after x xs false e None h = rw e (ap (onto_first x) h)
split_after x xs false e (Some p) h = rw e (ap (onto_first x) h)

split_at : (xs : List ℕ) → SplitIs xs (cut_at 32 xs)
split_at [] = refl
split_at (x ∷ xs) = split_after x xs (x == 32) refl (cut_at 32 xs) (split_at xs)

pub with_word-append : (word : List ℕ) (words : List (List ℕ)) → with_word word [] ++ words ≡ with_word word words
with_word-append [] words = refl
with_word-append (x ∷ xs) words = refl

filtered : (word : List ℕ) (words : List (List ℕ)) →
    filter (λ w. not (is_empty w)) (word ∷ words) ≡ with_word word (filter (λ w. not (is_empty w)) words)
filtered [] words = refl
filtered (x ∷ xs) words = refl

-- a space stands in the line
pub words_some : (xs before later : List ℕ) → Some (before, later) ≡ cut_at 32 xs → words_of xs ≡ with_word before (words_of later)
words_some xs before later e =
    let h : spaces xs ≡ before ∷ spaces later = subst (SplitIs xs) (sym e) (split_at xs) in
    ap (filter (λ w. not (is_empty w))) h ∙ filtered before (spaces later)

pub step_words : (front new : List (List ℕ)) (xs before later : List ℕ) (all : List (List ℕ)) → Some (before, later) ≡ cut_at 32 xs →
    new ≡ front ++ with_word before [] → front ++ words_of xs ≡ all → new ++ words_of later ≡ all
step_words front new xs before later all e grown so_far =
    ap (λ n. n ++ words_of later) grown
    ∙ append_assoc front (with_word before []) (words_of later)
    ∙ ap (λ w. front ++ w) (with_word-append before (words_of later) ∙ sym (words_some xs before later e))
    ∙ so_far

-- none does
pub words_none : (xs : List ℕ) → None ≡ cut_at 32 xs → words_of xs ≡ with_word xs []
words_none xs e =
    let h : spaces xs ≡ xs ∷ [] = subst (SplitIs xs) (sym e) (split_at xs) in
    ap (filter (λ w. not (is_empty w))) h ∙ filtered xs []
