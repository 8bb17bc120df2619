use Rattle.gw_base.specs.Entry.{entry_view}
use Rattle.cgf_journal.proofs.KeptLemmas.{key_refused, one_more}
use Rattle.cgf_journal.proofs.Trails.{on_err}
use Rattle.cgf_journal.proofs.tally.Tally.add.Goals as goal

pub returns-clause-ok : goal.returns-clause-ok
returns-clause-ok c =
    one_more c.self.inside.keys c.note.new.self c.self.inside.firm c.self.inside.live c.after-self-inside.result c.args.self.now (entry_view c.args.entry.now)
    c.self.view_is c.in_ok-note.ensures.grows.firm c.in_ok-note.ensures.ok c.in_ok-note.ensures.grows.reserved c.after-self-inside.ensures

pub returns-in_err-note-clause-full : goal.returns-in_err-note-clause-full
returns-in_err-note-clause-full c = on_err c.from_residual.result (key_refused c.self.inside.keys c.self.inside.firm c.self.inside.live c.args.self.now (entry_view c.args.entry.now) c.self.view_is c.self.invariant c.in_err-note.ensures.full)
