use Rattle.gateway_index.proofs.PairLemmas.{stepped_at}
use Rattle.gateway_index.proofs.windows.set_within_at.Goals as goal

pub returns : goal.returns
returns c = stepped_at c.requires c.index_mut.ensures.value c.set_within.ensures
