use Rattle.std.proofs.Common.{arith, rules}
use Rattle.cgf_journal.proofs.Trails.{bound, count, firm_costs_fit}
use Rattle.cgf_journal.proofs.trail.Trail.length.Goals as goal

pub returns-then-is_closed-clause-length : goal.returns-then-is_closed-clause-length
returns-then-is_closed-clause-length g c = λ told. search (rules, count)

pub returns-else-is_closed-clause-length : goal.returns-else-is_closed-clause-length
returns-else-is_closed-clause-length g c = λ told. search (rules, count)

pub returns-then-is_closed-clause-bound : goal.returns-then-is_closed-clause-bound
returns-then-is_closed-clause-bound g c =
    let t = c.args.self.now in omega (arith, t.sound.dear, firm_costs_fit t, t.sound.sized)

pub returns-else-is_closed-clause-bound : goal.returns-else-is_closed-clause-bound
returns-else-is_closed-clause-bound g c = let t = c.args.self.now in omega (arith, bound t, t.sound.sized, c.len.ensures)
