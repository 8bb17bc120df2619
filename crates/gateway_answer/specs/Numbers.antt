-- Numbers between bounds.
use Rattle.std.specs.Prelude.{◌≡◌, ℕ, ◌≤◌, ◌==◌, true, List}
use Rattle.std.specs.List.{list_any}

-- these numbers lie between these bounds
abbrev pub AreWithin : ℕ → ℕ → List ℕ → Type 0
AreWithin least greatest xs = (y : ℕ) → list_any (λ x. x == y) xs ≡ true → (least ≤ y) × (y ≤ greatest)
