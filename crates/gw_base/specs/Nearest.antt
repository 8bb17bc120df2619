-- The request number that 16 bits on the wire mean.
use Rattle.std.specs.Prelude.{ℕ, ◌+◌, ◌-◌, ◌%◌, ◌≤◌, ◌≡◌, Option, Some, None}

-- a number is the one that w means, where h is the greatest number of the epoch: the same modulo 65,536, and from
-- 32,768 below h to 32,767 above it
pub record IsNearest (h w number : ℕ) : Type 0 where
  pub congruent : number % 65536 ≡ w
  pub low : h ≤ number + 32768
  pub high : number ≤ h + 32767

-- the number that w means, by the greatest number of the epoch; where the epoch names none, numbers begin at 65,536
abbrev pub nearest : Option ℕ → ℕ → ℕ
nearest None w = 65536 + w
nearest (Some h) w = h - 32768 + (w + 65536 - (h - 32768) % 65536) % 65536
