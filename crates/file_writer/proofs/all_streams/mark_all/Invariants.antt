use Rattle.file_writer.proofs.Names.{HasMarked, mark_told, settings_of}
use Rattle.file_writer.proofs.all_streams.mark_all.Given as goal

abbrev pub invariant-loop-s : goal.invariant-loop-s
invariant-loop-s g l = HasMarked g.F.Shelf (settings_of l.gateway) (mark_told l.closes l.moment) l.s l.initial.streams
    l.streams l.initial.shelf l.shelf
