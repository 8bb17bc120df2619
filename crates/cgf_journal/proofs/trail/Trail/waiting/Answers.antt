use Rattle.std.proofs.Common.{arith, rules}
use Rattle.cgf_journal.specs.Trail.{waiting}
use Rattle.cgf_journal.proofs.Trails.{firm_spelled, length_firm}
use Rattle.cgf_journal.proofs.trail.Trail.waiting.Goals as goal

pub returns-clause-entries : goal.returns-clause-entries
unfolding waiting
returns-clause-entries g c = search rules

pub returns-clause-at : goal.returns-clause-at
returns-clause-at g c = λ told. let t = c.args.self.now in omega (arith, c.firm_costs.ensures, firm_spelled t told)

pub returns-clause-none : goal.returns-clause-none
returns-clause-none g c = λ none. length_firm c.args.self.now none
