use Rattle.std.proofs.Common.{◌≡◌, take}
use Rattle.node_session.proofs.Names.{GoOn, HaveTurnsFor, knowledge, tells_lists, vec_capacity, vec_len}
use Rattle.turn_cell.specs.Cell.{IsPassOf}
use Rattle.node_session.proofs.together.go_on_each.Given as goal

-- the session went on with the first jobs
abbrev pub invariant-loop-k : goal.invariant-loop-k
invariant-loop-k g l = record {
  own : IsPassOf l.cell l.pass;
  turns : HaveTurnsFor (tells_lists g.A.Area) l.outcomes (knowledge l.pass);
  go_on : GoOn g.A.Area (g.G.Gate.may l.gate) l.session (take l.k l.jobs) (take l.k l.outcomes) l.served.items (knowledge l.fn.pass) (knowledge l.pass)
      (g.L.Link.state l.fn.link) (g.L.Link.state l.link);
  each : vec_len l.served ≡ l.k;
  capacity : vec_capacity l.served ≡ vec_capacity l.fn.served;
}
