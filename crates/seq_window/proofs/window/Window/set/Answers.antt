use Rattle.std.proofs.Common.{◌∙◌, ap}
use Rattle.seq_window.specs.Seen.{Seen, with_state}
use Rattle.seq_window.proofs.SeenLemmas.{moved_first}
use Rattle.seq_window.proofs.window.Window.set.Goals as goal

pub returns : goal.returns
returns g c =
    c.put.ensures ∙ ap (λ (w : Seen). with_state g.row.HALF c.args.number c.args.state w) c.raise.ensures ∙ moved_first g.row.HALF c.args.number c.args.state _
