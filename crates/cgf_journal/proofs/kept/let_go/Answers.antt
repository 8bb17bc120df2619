use Rattle.gw_base.specs.Entry.{act_view}
use Rattle.cgf_journal.proofs.KeptLemmas.{let_go_both}
use Rattle.cgf_journal.proofs.kept.let_go.Goals as goal

pub returns : goal.returns
returns c =
    let_go_both (act_view c.args.act.now) c.args.early.now c.args.late.now c.note.new.self c.note-2.new.self c.requires
    c.in-Ok.ensures.ok c.note.ensures.grows c.in-Ok-note.ensures.ok c.note-2.ensures.grows
