use Rattle.std.proofs.Common.{◌∙◌, List, Some, ap, sym}
use Rattle.std.proofs.lemmas.List.{with_items_is}
use Rattle.gw_base.specs.declared.key_state.KeyState.{KeyState}
use Rattle.seq_window.specs.Stored.{IsMovedUp, seen_of}
use Rattle.seq_window.proofs.SeenLemmas.{moved_stored}
use Rattle.seq_window.proofs.window.Window.raise.Goals as goal

pub returns-then-top-number : goal.returns-then-top-number
returns-then-top-number g c =
    let m : IsMovedUp _ _ _ _ c.self.inside.cells.items _ = rw c.deref_mut.ensures.value at c.move_up-self-inside.ensures in
    rw (← c.self.view_is)
    (ap (λ (xs : List KeyState). seen_of g.row.HALF (record { top = Some c.args.number; at = c.move_up-self-inside.result; cells = xs }))
    (with_items_is c.self.inside.cells c.move_up-self-inside.new.cells (m.length ∙ sym c.self.inside.cells.ok.0))
    ∙ moved_stored g.row.HALF c.in-Some.top c.self.inside.top c.self.inside.at c.move_up-self-inside.result c.args.number c.self.inside.cells.items _
    c.in-Some.is c.if-top-number.true m)
