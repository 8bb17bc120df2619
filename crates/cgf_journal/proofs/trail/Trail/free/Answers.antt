use Rattle.std.proofs.Common.{◌≡◌, ◌∙◌, ap, rules}
use Rattle.cgf_journal.proofs.Names.{area_of, entries, free_beside, free_of, tally, TallyValue}
use Rattle.cgf_journal.proofs.Tallies.{free_is}
use Rattle.cgf_journal.proofs.Trails.{tally_is}
use Rattle.cgf_journal.proofs.trail.Trail.free.Goals as goal

pub returns-clause-counted : goal.returns-clause-counted
unfolding free_of
returns-clause-counted g c = search rules

pub returns-clause-free : goal.returns-clause-free
returns-clause-free g c = λ told.
    let t = c.args.self.now in
    let size = g.A.Area.size (area_of t) in
    let counted : c.free.result ≡ free_beside (tally t) size = search rules in
    counted ∙ ap (λ (v : TallyValue). free_beside v size) (tally_is t told) ∙ free_is (entries t) size
