use Rattle.seq_window.proofs.SeenLemmas.{put_stored}
use Rattle.seq_window.proofs.window.Window.put.Goals as goal

pub returns : goal.returns
returns g c =
    rw (← c.self.view_is) (put_stored g.row.HALF c.in-Some.top c.self.inside.top c.self.inside.at c.cell_below-cell.result c.args.number c.args.state c.self.inside.cells.items c.set_cell.new.cells.items
    c.in-Some.is c.self.invariant.2 (rw (← c.self.view_is) at c.requires) c.cell_below-cell.ensures.value c.set_cell.ensures.cells)
