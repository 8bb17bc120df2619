use Rattle.job_inbox.specs.Inbox.{IsPassOf}
use Rattle.inbox_tests.proofs.threads.push_some.Given as goal

abbrev pub invariant-loop-number : goal.invariant-loop-number
invariant-loop-number g l = IsPassOf l.inbox l.pass
