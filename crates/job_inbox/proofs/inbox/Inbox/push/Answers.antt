use Rattle.job_inbox.proofs.Orders.{pushes, shows}
use Rattle.job_inbox.proofs.inbox.Inbox.push.Goals as goal

pub push_as-requires-clause-rule : goal.push_as-requires-clause-rule
push_as-requires-clause-rule g c =
    (pushes _ _ _ _ _ _ c.args.self.now.some c.requires.own.1, shows _ _ _ _ c.args.self.now.some c.requires.own.1)
