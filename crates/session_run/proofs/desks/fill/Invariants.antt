use Rattle.std.proofs.Common.{◌≡◌, ◌++◌, List}
use Rattle.session_run.proofs.Names.{IsPassOf, Job, jobs_of, knowledge, later_of, latest, outcomes_of, with_all_taken}
use Rattle.session_run.proofs.desks.fill.Given as goal

-- the pass took the jobs that stand behind those in the batch
abbrev pub invariant-loop : goal.invariant-loop
invariant-loop g l = record {
  own : IsPassOf l.inbox l.pass;
  taken : (more : List Job) × (jobs_of l.batch ≡ jobs_of l.fn.batch ++ more) × (knowledge l.pass ≡ with_all_taken more (knowledge l.fn.pass))
      × (l.last ≡ later_of l.fn.last (latest more));
  same : outcomes_of l.batch ≡ outcomes_of l.fn.batch;
}
