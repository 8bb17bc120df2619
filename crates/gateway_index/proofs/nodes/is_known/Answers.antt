use Rattle.std.proofs.Common.{◌∙◌}
use Rattle.gateway_index.proofs.SlotLemmas.{known_is}
use Rattle.gateway_index.proofs.nodes.is_known.Goals as goal

pub returns : goal.returns
returns c = c.lists.ensures ∙ known_is c.args.node c.args.slots.now
