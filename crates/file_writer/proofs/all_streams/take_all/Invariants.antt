use Rattle.file_writer.proofs.Names.{HasTakenSome, settings_of}
use Rattle.file_writer.proofs.all_streams.take_all.Given as goal

abbrev pub invariant-loop-item : goal.invariant-loop-item
invariant-loop-item g l = HasTakenSome g.F.Shelf (settings_of l.gateway) l.rules l.items l.item-index l.initial.streams
    l.streams l.initial.shelf l.shelf
