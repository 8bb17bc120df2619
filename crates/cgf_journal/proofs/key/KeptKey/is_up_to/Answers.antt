use Rattle.std.proofs.Common.{rules}
use Rattle.cgf_journal.proofs.KeysLemmas.{up_to_node}
use Rattle.cgf_journal.proofs.key.KeptKey.is_up_to.Goals as goal

pub returns : goal.returns
returns c = up_to_node c.args.self.node.0 c.args.node.0 c.args.self.number (search rules)
