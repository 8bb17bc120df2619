use Rattle.node_core.proofs.KnowledgeLemmas.{all_rest}
use Rattle.node_core.proofs.laws.knowledge_rests_on_responses.Goals as goal

pub returns : goal.returns
returns c = all_rest
