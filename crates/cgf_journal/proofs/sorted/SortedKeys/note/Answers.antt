use Rattle.cgf_journal.specs.Sorted.{live_keys}
use Rattle.cgf_journal.proofs.Changes.{after_none}
use Rattle.cgf_journal.proofs.sorted.SortedKeys.note.Goals as goal

pub returns-in-Start-clause-ok : goal.returns-in-Start-clause-ok
returns-in-Start-clause-ok c = after_none c.args.act.now c.in-Start.is (live_keys c.args.self.now)
