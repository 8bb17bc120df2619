use Rattle.job_inbox.proofs.Orders.{takes, shows}
use Rattle.job_inbox.proofs.inbox.Inbox.pop.Goals as goal

pub pop_as-requires-clause-rule : goal.pop_as-requires-clause-rule
pop_as-requires-clause-rule g c =
    (takes _ _ _ _ c.args.self.now.some c.requires.own.1, shows _ _ _ _ c.args.self.now.some c.requires.own.1)
