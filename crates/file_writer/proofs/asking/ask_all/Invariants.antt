use Rattle.file_writer.specs.Asking.{HasAsked}
use Rattle.file_writer.proofs.asking.ask_all.Given as goal

abbrev pub invariant-loop-s : goal.invariant-loop-s
invariant-loop-s g l = HasAsked g.F.Shelf l.limits l.profile l.sequences l.s l.streams l.initial.shelf l.shelf
