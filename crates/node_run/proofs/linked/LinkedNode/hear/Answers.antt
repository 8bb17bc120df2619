use Rattle.std.proofs.Common.{ap, ◌∙◌}
use Rattle.node_core.specs.Value.{NodeValue}
use Rattle.node_run.proofs.StayingLemmas.{hears_on}
use Rattle.node_run.proofs.linked.LinkedNode.hear.Goals as goal

pub returns-in-None-clause-runs : goal.returns-in-None-clause-runs
returns-in-None-clause-runs g c =
    ap (λ (n : NodeValue). n.is_running) c.hear.ensures.node
    ∙ (hears_on c.args.self.now.node c.args.port c.args.from c.args.octets.now).runs ∙ c.requires
