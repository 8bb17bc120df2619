use Rattle.std.proofs.Common.{◌<◌, ℕ, sym, subst, arith}
use Rattle.crossbeam_queue.specs.Fifo.{Forks}
use Rattle.job_inbox.specs.declared.hand.Hands.{Hands}
use Rattle.job_inbox.specs.Rule.{Rule, begun, bystander}
use Rattle.job_inbox.proofs.Orders.{starts}
use Rattle.job_inbox.proofs.making.begin.Goals as goal

pub another-requires-clause-rule : goal.another-requires-clause-rule
another-requires-clause-rule g c =
    let passes : ℕ = g.J.PassCount.passes in
    let some : 0 < passes = omega (arith, c.requires.count, c.requires.some) in
    subst (λ (v : Hands). Forks Rule c.args.seat.id v bystander (begun passes)) (sym c.requires.first)
    (starts c.args.seat.id passes some)
