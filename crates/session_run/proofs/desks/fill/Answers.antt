use Rattle.std.proofs.Common.{◌≡◌, List, [], ◌∷◌, ◌++◌, refl, sym, ap, ◌∙◌, append_assoc}
use Rattle.session_run.proofs.Names.{append-nil, Hand, Job, jobs_of, knowledge, with_all_taken, with_taken}
use Rattle.session_run.proofs.TakingLemmas.{later_none, latest_push, popped_none}
use Rattle.session_run.proofs.desks.fill.Goals as goal

-- one job more was taken
takes_one : (before now after : Hand) (jobs : List Job) (job : Job) → now ≡ with_all_taken jobs before → after ≡ with_taken job now
    → after ≡ with_all_taken (jobs ++ job ∷ []) before
takes_one before now after jobs job is took = rw (took, is, append_assoc)

pub loop-init : goal.loop-init
loop-init g c = record {
  own = c.requires.own;
  taken = ([], sym (append-nil (jobs_of c.args.batch.now)), popped_none (knowledge c.args.pass) [] refl, sym (later_none c.args.last));
  same = refl;
}

pub loop-preserved : goal.loop-preserved
loop-preserved g c =
    let job = c.in-Some-job.job in
    let more = c.loop.invariant.taken.0 in
    let took : knowledge c.pop-job.result.1 ≡ with_taken job (knowledge c.loop.pass) = rw c.in-Some-job.is
    at c.pop-job.ensures.some in
    record {
      own = c.pop-job.ensures.own;
      taken = (
        more ++ job ∷ [],
        c.add.ensures.jobs ∙ ap (λ (js : List Job). js ++ job ∷ []) c.loop.invariant.taken.1 ∙ append_assoc (jobs_of c.args.batch.now) more (job ∷ []),
        takes_one (knowledge c.args.pass) (knowledge c.loop.pass) (knowledge c.pop-job.result.1) more job c.loop.invariant.taken.2 took,
        c.later-last.ensures ∙ latest_push c.args.last c.loop.last more job c.loop.invariant.taken.3,
      );
      same = c.add.ensures.same.0 ∙ c.loop.invariant.same;
    }
