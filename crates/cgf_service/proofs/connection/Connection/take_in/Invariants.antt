use Rattle.std.proofs.Common.{◌≡◌, ◌+◌, ◌-◌, ◌≤◌, ◌++◌, ℕ, List, length, take}
use Rattle.cgf_service.proofs.Names.{ABook, Appends, IsGoingOn, IsSteady}
use Rattle.cgf_service.proofs.connection.Connection.take_in.Given as goal

-- the octets up to this place were taken in, and the messages that end among them were answered
abbrev pub invariant-loop-at : goal.invariant-loop-at
invariant-loop-at g l = record {
  within : l.at ≤ length l.octets;
  came : l.self.came ≡ l.fn.self.came + l.at;
  steady : IsSteady g.A.Area l.self;
  node : l.self.node ≡ l.fn.self.node;
  goes : (opened : ABook g.row.A.Denot g.A.Area) (given sent : List ℕ) → IsGoingOn g.A.Area opened given sent l.fn.self
      → (more : List ℕ) × IsGoingOn g.A.Area opened (given ++ take l.at l.octets) (sent ++ more) l.self
      × Appends (g.K.Sink.written l.fn.sink) (g.K.Sink.written l.sink) more;
  sink : g.K.Sink.faults l.sink ≡ g.K.Sink.faults l.fn.sink;
  clock : g.C.Clock.faults l.clock ≡ g.C.Clock.faults l.fn.clock;
}

abbrev pub decreases-loop-at : goal.decreases-loop-at
decreases-loop-at g l = length l.octets - l.at
