-- The passes of a cell with a book.
use Rattle.std.proofs.Common.{◌≡◌, List, sym, subst}
use Rattle.area_disk.specs.declared.area.Area.{Ghosts}
use Rattle.gateway_book.specs.Turning.{facts_of}
use Rattle.gateway_book.specs.declared.book.Book.{Book}
use Rattle.turn_cell.specs.Cell.{AreNew}
use Rattle.turn_cell.specs.declared.cell.Pass.{Pass}
use Rattle.turn_cell.specs.declared.cell.TurnCell.{TurnCell}

-- the passes of a cell that was made with a book
pub begun_with : {A : Type 0} {tells : Ghosts A} (cell : TurnCell (Book A tells)) (begun book : Book A tells) (passes : List Pass) → begun ≡ book
    → AreNew cell.table.shared.table_id (facts_of book) 2 passes → AreNew cell.table.shared.table_id (facts_of begun) 2 passes
begun_with {A = A} {tells = tells} cell begun book passes is new =
    subst (λ (v : Book A tells). AreNew cell.table.shared.table_id (facts_of v) 2 passes) (sym is) new
