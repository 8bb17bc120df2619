use Rattle.std.proofs.Common.{◌≡◌, None}
use Rattle.session_run.proofs.Names.{Addr, AreOfEach, CountsTurns, HasDispatched, IfTurns, IsReady, IsTeamOf, link_of, passes_of, TeamWorksOn, tells_lists}
use Rattle.session_run.proofs.round.serve.Given as goal

abbrev pub invariant-loop : goal.invariant-loop
invariant-loop g l = record {
  own : AreOfEach l.inboxes (passes_of l.served.0.dispatcher);
  team : IsTeamOf l.cell l.inboxes l.served.1;
  runs : l.served.0.stop ≡ None;
  ready : IsReady (tells_lists g.A.Area) l.served.1.actor;
  worked : TeamWorksOn g.F.Shelf g.L.Link (tells_lists g.A.Area) l.fn.served.1 l.served.1;
  dispatched : (at : Addr) → HasDispatched g.L.Link at l.fn.served.0 → HasDispatched g.L.Link at l.served.0;
  turns : IfTurns l.until (λ n. CountsTurns g.L.Link n l.fn.served.0 → CountsTurns g.L.Link n l.served.0);
  clock : g.C.Clock.faults l.clock ≡ g.C.Clock.faults l.fn.clock;
  calm : (link_of g.L.Link l.served.0).faults ≡ (link_of g.L.Link l.fn.served.0).faults;
}
