use Rattle.std.proofs.Common.{rules}
use Rattle.gateway_index.proofs.PairLemmas.{seen_there, stepped_at}
use Rattle.gateway_index.proofs.windows.set_at.Goals as goal

pub set-requires : goal.set-requires
set-requires c = search (rules, seen_there)

pub returns : goal.returns
returns c = stepped_at c.requires.inside c.index_mut.ensures.value c.set.ensures
