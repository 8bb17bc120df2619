use Rattle.session_run.proofs.Names.{Began, HasWritten, tells_lists, Writer}
use Rattle.node_session.specs.Writing.{IsActorOf, IsWriterOf, knowledge_of, writer_of}
use Rattle.session_run.proofs.filing.write_files.Given as goal

abbrev pub invariant-loop : goal.invariant-loop
invariant-loop g l = record {
  own : IsActorOf l.cell l.actor;
  writer : IsWriterOf (tells_lists g.A.Area) (knowledge_of l.actor).known (writer_of l.actor);
  written : (began : Began) (first : Writer _ g.F.Shelf) → HasWritten g.F.Shelf (tells_lists g.A.Area) began first l.fn.actor
      → HasWritten g.F.Shelf (tells_lists g.A.Area) began first l.actor;
}
