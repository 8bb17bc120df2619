use Rattle.std.proofs.Common.{◌≡◌, [], ap, ◌∙◌, arith}
use Rattle.gateway_answer.proofs.Names.{cost_of, entry_by, HistoryAct, no_caller}
use Rattle.gateway_answer.proofs.PlainLemmas.{rest_costs}
use Rattle.gateway_answer.proofs.costs.costs_of.Goals as goal

pub loop-entry-preserved : goal.loop-entry-preserved
loop-entry-preserved c =
    let here : c.cost_of.result ≡ cost_of c.entry-item.result =
    c.cost_of.ensures.value [] ∙ ap (λ (a : HistoryAct). cost_of (entry_by [] 0 no_caller a)) c.lent.ensures in
    let rest = rest_costs c.args.history.now c.loop-entry.entry-index c.entry-item.result (omega (arith, c.loop-entry-test.true)) c.entry-item.is in
    record {
      costs = omega (arith, here, rest, c.loop-entry.invariant.costs, c.from-costs.ensures);
      bound = omega (arith, c.loop-entry.invariant.bound, c.from-costs.ensures, c.cost_of.ensures.bound);
    }
