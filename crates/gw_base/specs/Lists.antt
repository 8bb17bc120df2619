-- Words on lists: the greatest number, and each element once.
use Rattle.std.specs.Prelude.{ℕ, max, not, Bool, List, [], ◌∷◌, Option, Some, None, filter, fold}
use Rattle.std.specs.Option.{option_map_or}

-- the greatest of these and of another number, where there is one
abbrev pub raised : Option ℕ → ℕ → Option ℕ
raised top x = Some (option_map_or (λ t. max t x) top x)

-- the greatest of these numbers, where there is one
abbrev pub greatest : List ℕ → Option ℕ
greatest [] = None
greatest (x ∷ xs) = Some (fold (λ t y. max t y) x xs)

-- each element once, by this test, in order of the first that stands
abbrev pub once : {A : Type 0} → (A → A → Bool) → List A → List A
once same [] = []
once same (x ∷ xs) = x ∷ filter (λ y. not (same x y)) (once same xs)
