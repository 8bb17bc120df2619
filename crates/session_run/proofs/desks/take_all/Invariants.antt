use Rattle.session_run.proofs.Names.{HasTaken, IsDeskOf, IsTaken, tells_lists}
use Rattle.session_run.proofs.desks.take_all.Given as goal

-- what each took stands in its batch
abbrev pub invariant-loop : goal.invariant-loop
invariant-loop g l = record {
  own : IsDeskOf l.cell l.one l.a × IsDeskOf l.cell l.two l.b;
  taken : IsTaken (tells_lists g.A.Area) l.a × IsTaken (tells_lists g.A.Area) l.b;
  takes : HasTaken g.A.Area l.fn.desks.0 l.a × HasTaken g.A.Area l.fn.desks.1 l.b;
}
