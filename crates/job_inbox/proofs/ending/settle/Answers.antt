use Rattle.std.proofs.Common.{◌≡◌, ap, ◌∙◌, arith}
use Rattle.crossbeam_queue.specs.Passes.{view}
use Rattle.job_inbox.specs.declared.hand.Hands.{Hands}
use Rattle.job_inbox.proofs.Deals.{settled, took_what_was_pushed}
use Rattle.job_inbox.proofs.Orders.{ends}
use Rattle.job_inbox.proofs.ending.settle.Goals as goal

pub learn_as-requires-clause-rule : goal.learn_as-requires-clause-rule
learn_as-requires-clause-rule c =
    let made : (view c.args.seat).made ≡ c.args.inbox.now.made = ap (λ (v : Hands). v.made) c.requires.seat.1 in
    ends _ _ (omega (arith, c.args.inbox.now.some)) (omega (arith, c.requires.all))

pub returns-clause-count : goal.returns-clause-count
returns-clause-count c =
    c.learn_as.ensures.rule.1.0 ∙ ap (λ (v : Hands). v.made) c.requires.seat.1

pub returns-clause-settled : goal.returns-clause-settled
returns-clause-settled c = settled (view c.args.seat) c.learn_as.ensures.rule.0 c.learn_as.ensures.rule.1

pub returns-clause-pushed : goal.returns-clause-pushed
returns-clause-pushed c =
    took_what_was_pushed (view c.args.seat).hands (settled (view c.args.seat) c.learn_as.ensures.rule.0 c.learn_as.ensures.rule.1)
