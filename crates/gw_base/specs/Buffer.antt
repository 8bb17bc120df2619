-- What a buffer is: the octets that it holds, and the most that it can hold.
use Rattle.std.specs.Prelude.{ℕ, List}

pub record Buffered : Type 0 where
  pub octets : List ℕ
  pub capacity : ℕ
