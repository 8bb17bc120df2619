use Rattle.std.proofs.Common.{rules}
use Rattle.cgf_journal.proofs.KeysLemmas.{node_apart, number_apart}
use Rattle.cgf_journal.proofs.key.KeptKey.is_at.Goals as goal

pub returns-then-node-self-clause-apart : goal.returns-then-node-self-clause-apart
returns-then-node-self-clause-apart c = λ no e. node_apart c.args.self.node.0 c.args.node.0 c.args.self.number c.args.number (search rules) (search rules) (search rules) e

pub returns-clause-apart : goal.returns-clause-apart
returns-clause-apart c = λ no e. number_apart c.args.self.node.0 c.args.node.0 c.args.self.number c.args.number (search rules) (search rules) e
