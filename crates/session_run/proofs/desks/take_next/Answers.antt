use Rattle.std.proofs.Common.{◌∙◌}
use Rattle.session_run.proofs.Names.{FirstAreTaken, jobs_of, knowledge, knowledge_of, outcomes_of, session_of}
use Rattle.session_run.proofs.TakingLemmas.{first_taken, latest_more, popped_more, whole_taken}
use Rattle.session_run.proofs.desks.take_next.Goals as goal
use Rattle.session_run.proofs.desks.take_next.Goals.{then-has_come, else-has_come}

pub returns-clause-takes : goal.returns-clause-takes
returns-clause-takes g c = λ first h.
    let desk = c.args.desk in
    let filled = c.fill-last.ensures in
    let more = filled.taken.0 in
    let jobs = jobs_of desk.batch in
    let all = jobs_of c.fill-last.new.batch in
    let before = knowledge_of first.worker in
    let known = knowledge_of desk.worker in
    let session = session_of first.worker in
    let took : FirstAreTaken g.A.Area session all (outcomes_of c.fill-last.new.batch) before known =
    first_taken g.A.Area session jobs more all (outcomes_of desk.batch) (outcomes_of c.fill-last.new.batch) before known filled.taken.1 filled.same
    c.requires.taken.all h.taken in
    elim c.if-has_come.branch [
      | then-has_come w ↦ rw w.worker-is (rw w.batch-is (record {
        session = w.take.ensures.own.1 ∙ h.session;
        popped = popped_more (knowledge first.pass) (knowledge desk.pass) (knowledge c.fill-last.result.1) jobs more (jobs_of w.take.new.batch)
            h.popped filled.taken.2 (w.take.ensures.jobs ∙ filled.taken.1);
        last = latest_more first.last desk.last c.fill-last.result.0 jobs more (jobs_of w.take.new.batch) h.last filled.taken.3
            (w.take.ensures.jobs ∙ filled.taken.1);
        taken = rw (← h.session) (w.take.ensures.taken before (rw h.session took));
        link = h.link;
        stop = h.stop;
      }))
      | else-has_come w ↦ rw w.worker-is (rw w.batch-is (record {
        session = h.session;
        popped = popped_more (knowledge first.pass) (knowledge desk.pass) (knowledge c.fill-last.result.1) jobs more all h.popped filled.taken.2 filled.taken.1;
        last = latest_more first.last desk.last c.fill-last.result.0 jobs more all h.last filled.taken.3 filled.taken.1;
        taken = whole_taken g.A.Area session all (outcomes_of c.fill-last.new.batch) before known (c.are_all_taken-has_come.ensures.taken w.if-has_come.false) took;
        link = h.link;
        stop = h.stop;
      }))
    ]
