use Rattle.std.proofs.Common.{◌≡◌, ◌+◌, take}
use Rattle.turn_cell.proofs.Names.{begun, HasCome, IsOwnSession, known_at, made_by, TookMore, vec_capacity, vec_len}
use Rattle.turn_cell.proofs.cell.TurnCell.turns_at.Given as goal

-- the turns of the first items were taken
abbrev pub invariant-loop-item : goal.invariant-loop-item
invariant-loop-item g l = record {
  same : l.place.table_id ≡ l.fn.place.table_id;
  comes : HasCome g.V.Counted.facts g.V.Counted.told (made_by l.self) (g.V.Counted.facts (begun l.self)) l.ticket l.place.me;
  session : IsOwnSession (g.T.Turns.session l.turns) (known_at l.place);
  took : TookMore g.V.Counted.told g.V.Counted.facts (made_by l.self) (g.V.Counted.facts (begun l.self)) (g.T.Turns.session l.turns) (g.T.Turns.does l.turns)
      (take l.item-index l.items) l.fn.answers.items l.answers.items (known_at l.fn.place) (known_at l.place);
  each : vec_len l.answers ≡ vec_len l.fn.answers + l.item-index;
  capacity : vec_capacity l.answers ≡ vec_capacity l.fn.answers;
}
