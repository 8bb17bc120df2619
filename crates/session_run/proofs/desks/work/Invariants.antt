use Rattle.session_run.proofs.Names.{ArePairOf, PairWorksOn, tells_lists}
use Rattle.session_run.proofs.desks.work.Given as goal

abbrev pub invariant-loop : goal.invariant-loop
invariant-loop g l = record {
  own : ArePairOf l.cell l.one l.two l.desks;
  worked : PairWorksOn g.L.Link (tells_lists g.A.Area) l.fn.desks l.desks;
}
