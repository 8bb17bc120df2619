use Rattle.cgf_journal.proofs.KeptLemmas.{hold_one}
use Rattle.cgf_journal.proofs.kept.hold.Goals as goal

pub returns-clause-noted : goal.returns-clause-noted
returns-clause-noted c =
    hold_one c.args.node c.args.number c.args.packet.now c.args.early.now c.args.late.now c.note-2.new.self c.note.new.self
    c.in-Ok-note.ensures.ok c.note-2.ensures.grows c.in-Ok.ensures.ok c.note.ensures.grows
