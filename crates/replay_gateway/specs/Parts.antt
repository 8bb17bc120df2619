-- How a writer is given all items of a gateway, in parts.
use Rattle.std.specs.Prelude.{◌≡◌, ℕ, ◌<◌, ◌^◌, List, [], length, Result, IfOk}
use Rattle.cdr_shelf.specs.declared.memory.MemoryShelf.{MemoryShelf}
use Rattle.file_writer.specs.Advancing.{Advances}
use Rattle.file_writer.specs.Parts.{part_of}
use Rattle.file_writer.specs.declared.fault.ShelfFault.{ShelfFault}
use Rattle.file_writer.specs.declared.writer.Writer.{Writer}
use Rattle.gw_base.specs.declared.item.Item.{Item}
use Rattle.replay_gateway.specs.Written.{shelf_tells}

-- These of all items were read: at most so many, from one on.
pub record IsPart (from most : ℕ) (all items : List Item) : Type 0 where
  pub is : items ≡ part_of from most all
  pub few : length all < 2 ^ 31

-- A writer was given all of them, and took them, or had a fault.
pub record IsGivenAll (all : List Item) (first last : Writer MemoryShelf shelf_tells) (given : Result ℕ ShelfFault)
    : Type 0 where
  pub few : length all < 2 ^ 31
  pub goes : Advances shelf_tells (λ s. 0) [] all first last given
  pub count : IfOk given (λ n. n ≡ length all)
