use Rattle.std.proofs.Common.{◌≡◌, ◌-◌, ◌<◌, ℕ, List, length}
use Rattle.cgf_service.proofs.Names.{Appends, Consumes, IsGoingOn, most_stream}
use Rattle.cgf_service.proofs.stream.serve.Given as goal

-- these octets came, and this was sent for them
abbrev pub invariant-pieces : goal.invariant-pieces
invariant-pieces g l = record {
  goes : (given : List ℕ) × (sent : List ℕ) × IsGoingOn g.A.Area l.fn.connection.book given sent l.connection
      × Consumes (g.S.Source.left l.fn.source) (g.S.Source.left l.source) given
      × Appends (g.K.Sink.written l.fn.sink) (g.K.Sink.written l.sink) sent;
  node : l.connection.node ≡ l.fn.connection.node;
  source : g.S.Source.faults l.source ≡ g.S.Source.faults l.fn.source;
  sink : g.K.Sink.faults l.sink ≡ g.K.Sink.faults l.fn.sink;
  clock : g.C.Clock.faults l.clock ≡ g.C.Clock.faults l.fn.clock;
  piece : 0 < length l.piece;
}

abbrev pub decreases-pieces : goal.decreases-pieces
decreases-pieces g l = most_stream - l.connection.came
