use Rattle.gateway_index.specs.Index.{Follows}
use Rattle.gateway_index.proofs.IndexLemmas.{observed_as}
use Rattle.gateway_index.proofs.laws.an_index_tells_its_history.Goals as goal

pub returns-clause-observed : goal.returns-clause-observed
returns-clause-observed c = observed_as c.held_keys_are_those_in_that_state.ensures c.present_state_is_that_of_the_epoch.ensures

pub returns-clause-totals : goal.returns-clause-totals
unfolding Follows
returns-clause-totals c = λ firm index h t. t.totals

pub returns-clause-held : goal.returns-clause-held
unfolding Follows
returns-clause-held c = λ firm index h t. t.held.count

pub returns-clause-known : goal.returns-clause-known
unfolding Follows
returns-clause-known c = λ firm index h t. t.known
