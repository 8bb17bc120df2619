use Rattle.std.proofs.Common.{arith}
use Rattle.gateway_answer.proofs.FewItems.{few_items}
use Rattle.gateway_answer.proofs.laws.items_are_fewer_than_octets.Goals as goal

pub returns-clause-costs : goal.returns-clause-costs
returns-clause-costs c = λ h. few_items c.held_keys_are_those_in_that_state.ensures h

pub returns-clause-stands : goal.returns-clause-stands
returns-clause-stands c = λ header octets h stands.
    omega (arith, few_items c.held_keys_are_those_in_that_state.ensures h, stands.stands.costs)
