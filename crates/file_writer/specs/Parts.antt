-- How a writer is told items in parts.
use Rattle.std.specs.Prelude.{ℕ, List, [], take, drop, Ok}
use Rattle.cdr_shelf.specs.declared.shelf.Shelf.{Ghosts}
use Rattle.gw_base.specs.declared.item.Item.{Item}
use Rattle.file_writer.specs.Advancing.{Advances}
use Rattle.file_writer.specs.declared.writer.Writer.{Writer}

-- at most so many of all items, from one on
abbrev pub part_of : ℕ → ℕ → List Item → List Item
part_of from most all = take most (drop from all)

-- A writer that began items anew has taken these, as one call does that takes them all, whatever number it answers.
abbrev pub HasAdvanced : {A : Type 0} (tells : Ghosts A) → (ℕ → ℕ) → List Item → Writer A tells → Writer A tells → Type 0
HasAdvanced tells closed items first now = (n : ℕ) → Advances tells closed [] items first now (Ok n)
