use Rattle.std.proofs.Common.{rules}
use Rattle.cgf_journal.proofs.KeysLemmas.{by_node, by_number}
use Rattle.cgf_journal.proofs.key.KeptKey.is_before.Goals as goal

pub returns-then-self-node : goal.returns-then-self-node
returns-then-self-node c = by_node c.args.self.node.0 c.args.node.0 c.args.self.number c.args.number (search rules) (search rules) (search rules)

pub returns : goal.returns
returns c = by_number c.args.self.node.0 c.args.node.0 c.args.self.number c.args.number (search rules)
