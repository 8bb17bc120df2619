-- The table is held against the definition at each of the 256 octets, by computing.
use Rattle.std.proofs.Common.{◌≡◌, ℕ, zero, suc, ◌<◌, ◌==◌, Bool, true, ◌&&◌, List, get_or, unwrap_or, refl, arith, inl, inr}
use Rattle.std.proofs.lemmas.Bool.{and_parts, cases_eq, eqb-true}
use Rattle.hex.specs.Hex.{hex_digit_value}
use Rattle.route_filter.specs.declared.hexadecimal.TheConstants.{DIGITS}
use Rattle.route_filter.proofs.hexadecimal.digit.Goals as goal

-- the two are the same below n
same_below : (ℕ → ℕ) → (ℕ → ℕ) → ℕ → Bool
same_below f g zero = true
same_below f g (suc n) = (f n == g n) && same_below f g n

same_at : (f g : ℕ → ℕ) (n : ℕ) → same_below f g n ≡ true → (octet : ℕ) → octet < n → f octet ≡ g octet
unfolding same_below
same_at f g zero h octet within = absurd (omega arith)
same_at f g (suc n) h octet within =
    let both = and_parts (f n == g n) (same_below f g n) h in
    elim (cases_eq octet n) [
      | inl same ↦ rw same (eqb-true (f n) (g n) both.0)
      | inr other ↦ same_at f g n both.1 octet (omega arith)
    ]

from_table : (table : List ℕ) (octet : ℕ) → octet < 256
    → same_below (λ k. get_or table k 0) (λ k. unwrap_or (hex_digit_value k) 16) 256 ≡ true
    → get_or table octet 0 ≡ unwrap_or (hex_digit_value octet) 16
from_table table octet within h = same_at _ _ 256 h octet within

pub returns : goal.returns
unfolding same_below
returns c = from_table DIGITS c.args.octet (omega arith) refl
