-- What is said of an area that tells nothing: a crash leaves no octets, whatever was written.
use Rattle.std.proofs.Common.{◌≡◌, ℕ, ◌+◌, List, [], length, take, drop, refl, ap}
use Rattle.area_disk.specs.Disk.{Follows, Torn}

pub follows : (at n : ℕ) → Follows (Torn at n) (λ (c : List ℕ). c ≡ []) (λ (c : List ℕ). c ≡ [])
follows at n c left = (
  [],
  refl,
  record {
    before = ap (λ (l : List ℕ). take at l) left;
    after = ap (λ (l : List ℕ). drop (at + n) l) left;
    size = ap (λ (l : List ℕ). length l) left;
  },
)
