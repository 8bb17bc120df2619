use Rattle.job_inbox.specs.Inbox.{IsPassOf}
use Rattle.inbox_tests.proofs.threads.take_some.Given as goal

abbrev pub invariant-loop-taken : goal.invariant-loop-taken
invariant-loop-taken g l = IsPassOf l.inbox l.pass
