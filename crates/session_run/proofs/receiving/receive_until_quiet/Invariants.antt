use Rattle.std.proofs.Common.{◌≡◌, None}
use Rattle.session_run.proofs.Names.{Addr, AreOfEach, HasDispatched, link_of, passes_of}
use Rattle.session_run.proofs.receiving.receive_until_quiet.Given as goal

abbrev pub invariant-loop : goal.invariant-loop
invariant-loop g l = record {
  own : AreOfEach l.inboxes (passes_of l.reception.dispatcher);
  runs : l.reception.stop ≡ None;
  dispatched : (at : Addr) → HasDispatched g.L.Link at l.fn.reception → HasDispatched g.L.Link at l.reception;
  clock : g.C.Clock.faults l.clock ≡ g.C.Clock.faults l.fn.clock;
  calm : (link_of g.L.Link l.reception).faults ≡ (link_of g.L.Link l.fn.reception).faults;
}
