use Rattle.std.proofs.Common.{rules}
use Rattle.turn_cell.proofs.Calls.{looks_at}
use Rattle.turn_cell.proofs.cell.TurnCell.seen.Goals as goal

pub load-length-requires : goal.load-length-requires
load-length-requires g c = (search rules, search rules, looks_at _ _ _ _ _ _ _ _ c.into_place-place.ensures.rests)
