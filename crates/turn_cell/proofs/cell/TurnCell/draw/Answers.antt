use Rattle.std.proofs.Common.{rules, ◌∙◌}
use Rattle.turn_cell.proofs.Calls.{draws_at}
use Rattle.turn_cell.proofs.cell.TurnCell.draw.Goals as goal

pub compare_exchange-found-requires : goal.compare_exchange-found-requires
compare_exchange-found-requires g c = (search rules, search rules, draws_at _ _ _ _ _ _ _ _ _ (c.loop.invariant.1 ∙ c.requires.rests))
