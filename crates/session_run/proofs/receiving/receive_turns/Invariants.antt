use Rattle.std.proofs.Common.{◌≡◌, ℕ, None}
use Rattle.session_run.proofs.Names.{Addr, AreOfEach, CountsTurns, HasDispatched, link_of, passes_of}
use Rattle.session_run.proofs.receiving.receive_turns.Given as goal

abbrev pub invariant-loop-reception : goal.invariant-loop-reception
invariant-loop-reception g l = record {
  own : AreOfEach l.inboxes (passes_of l.reception.dispatcher);
  runs : l.reception.stop ≡ None;
  dispatched : (at : Addr) → HasDispatched g.L.Link at l.fn.reception → HasDispatched g.L.Link at l.reception;
  turns : (n : ℕ) → CountsTurns g.L.Link n l.fn.reception → CountsTurns g.L.Link n l.reception;
  clock : g.C.Clock.faults l.clock ≡ g.C.Clock.faults l.fn.clock;
  calm : (link_of g.L.Link l.reception).faults ≡ (link_of g.L.Link l.fn.reception).faults;
}

abbrev pub decreases-loop-reception : goal.decreases-loop-reception
decreases-loop-reception g l = l.reception.left
