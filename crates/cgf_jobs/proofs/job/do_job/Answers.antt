use Rattle.cgf_jobs.proofs.Whole.{ran_drill, ran_replay, reported_done}
use Rattle.cgf_jobs.proofs.job.do_job.Goals as goal

pub returns-clause-once : goal.returns-clause-once
returns-clause-once g c = record {
  of_script = λ text lines asked left script done. ran_replay _ c.run.result.status c.run.result.played text lines
      (c.run.ensures.report (reported_done _ done)) asked left script done;
  of_seed = λ of asked done. ran_drill _ c.run.result.status c.run.result.played of
      (c.run.ensures.report (reported_done _ done)) asked done;
}

pub returns-clause-job : goal.returns-clause-job
returns-clause-job g c = record {
  report = c.run.ensures.report;
  front = c.run.ensures.front;
  none = c.run.ensures.none;
  cause = c.run.ensures.cause;
  bound = c.run.ensures.bound;
  complete = c.run.ensures.complete;
}
