-- What is read of a book that is up.
use Rattle.std.specs.Prelude.{◌≡◌, ℕ, length}
use Rattle.gateway_book.specs.Calls.{counts_of}
use Rattle.gateway_answer.specs.Filed.{filed}
use Rattle.gateway_answer.specs.Value.{BookValue}
use Rattle.gateway_book.specs.declared.outcome.Counts.{Counts}

-- so many records the firm entries of a book have filed, and on so many octets it counts this
pub record Tells (book : BookValue) (size n : ℕ) (told : Counts) : Type 0 where
  pub records : n ≡ length (filed book.firm)
  pub counts : told ≡ counts_of book size
