use Rattle.route_filter.proofs.StartLemmas.{none_yet}
use Rattle.route_filter.proofs.rules.Rules.none.Goals as goal

pub invariant_of-result : goal.invariant_of-result
invariant_of-result c = none_yet c.new.result.items c.new.ensures.items
