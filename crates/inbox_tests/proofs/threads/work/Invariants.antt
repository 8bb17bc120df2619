use Rattle.job_inbox.specs.Inbox.{IsPassOf}
use Rattle.inbox_tests.proofs.threads.work.Given as goal

abbrev pub invariant-loop : goal.invariant-loop
invariant-loop g l = IsPassOf l.inbox l.pass
