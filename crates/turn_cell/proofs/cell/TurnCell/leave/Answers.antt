use Rattle.std.proofs.Common.{rules}
use Rattle.turn_cell.proofs.Calls.{leaves_at}
use Rattle.turn_cell.proofs.cell.TurnCell.leave.Goals as goal

pub store-requires : goal.store-requires
store-requires g c = (search rules, search rules, leaves_at _ _ _ _ _ _ _ c.requires.comes.0 _ _ c.requires.comes.1)
