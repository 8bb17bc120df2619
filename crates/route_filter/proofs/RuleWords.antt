-- Lines that have other than three words after the first.
use Rattle.std.proofs.Common.{◌≡◌, ℕ, ◌<◌, List, [], ◌∷◌, length, map, None, refl, arith}
use Rattle.std.specs.Borrow.{Bor}
use Rattle.route_filter.specs.Rules.{rule_by}

abbrev now_of : List (Bor (List ℕ)) → List (List ℕ)
now_of words = map (λ word. word.now) words

pub fewer : (words : List (Bor (List ℕ))) → length words < 3 → None ≡ rule_by (now_of words)
fewer (a ∷ b ∷ c ∷ words) h = absurd (omega arith)
fewer _ h = refl

pub more : (words : List (Bor (List ℕ))) → 3 < length words → None ≡ rule_by (now_of words)
more (a ∷ b ∷ c ∷ []) h = absurd (omega arith)
more _ h = refl
