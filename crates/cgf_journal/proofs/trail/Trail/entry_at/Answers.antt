use Rattle.gate_journal.specs.Journal as journal
use Rattle.cgf_journal.proofs.Names.{area_of, header_of, length-header}
use Rattle.cgf_journal.proofs.Placing.{entry_lies}
use Rattle.cgf_journal.proofs.Trails.{entry_is, length_is}
use Rattle.cgf_journal.proofs.trail.Trail.entry_at.Goals as goal

pub returns-clause-length : goal.returns-clause-length
returns-clause-length g c = λ told e get.
    let t = c.args.self.now in
    length_is t told c.args.k c.at.result e c.requires c.at.ensures get

pub returns-clause-lies : goal.returns-clause-lies
returns-clause-lies g c = λ told e firm get.
    let t = c.args.self.now in
    entry_lies (header_of t) (length-header _ _ _) (g.A.Area.octets (area_of t)) (journal.front_of t.journal) t.sound.founded (journal.batches t.journal) (journal.torn t.journal) c.at.result e
    (entry_is t told c.args.k c.at.result e (firm, c.at.ensures) get) (c.is_closed-closed.ensures.rests.reads told)
