use Rattle.std.proofs.Common.{rules, ◌∙◌}
use Rattle.turn_cell.proofs.Calls.{calls_at}
use Rattle.turn_cell.proofs.cell.TurnCell.wait.Goals as goal

pub load-serves-requires : goal.load-serves-requires
load-serves-requires g c = (search rules, search rules, calls_at _ _ _ _ _ _ _ _ _ _ _ (c.requires.origin.0 ∙ c.args.self.now.counted) c.requires.origin.1 (c.loop.invariant.1 ∙ c.requires.waits))
