use Rattle.std.proofs.Common.{List, ◌∙◌, sym, ap}
use Rattle.session_run.proofs.Names.{first_stop, Job, jobs_of, knowledge_of, option_or, outcomes_of, served_of, session_of}
use Rattle.session_run.proofs.DeskLemmas.{worked_on}
use Rattle.session_run.proofs.StopLemmas.{stops_by}
use Rattle.session_run.proofs.TakingLemmas.{both_served}
use Rattle.session_run.proofs.desks.go_on.Goals as goal

pub returns-clause-worked : goal.returns-clause-worked
returns-clause-worked g c = λ first h at began w.
    let desk = c.args.desk in
    let session = session_of first.worker in
    let jobs : List Job = jobs_of desk.batch in
    let results = served_of c.go_on.new.batch in
    let old = g.L.Link.state first.link in
    let new = g.L.Link.state c.go_on.new.link in
    let before = knowledge_of first.worker in
    let after = knowledge_of c.go_on.new.self in
    let served = both_served g.A.Area _ session jobs (outcomes_of desk.batch) results before (knowledge_of desk.worker)
    after old (g.L.Link.state desk.link) new (session_of desk.worker) h.session (ap (λ l. g.L.Link.state l) h.link) h.taken c.go_on.ensures.goes in
    let tell = c.what_served_jobs_tell.ensures in
    let keeps = tell.turns session jobs old new results before after served in
    worked_on g.A.Area g.L.Link _ session jobs first
    (record { worker = c.go_on.new.self; pass = desk.pass; link = c.go_on.new.link; last = desk.last; stop = c.or-stop.result; batch = c.go_on.new.batch })
    results h.popped served keeps (tell.tells session jobs old new results before after served)
    (sym h.session ∙ c.go_on.ensures.number)
    (stops_by desk.stop c.first_stop.result c.or-stop.result c.served.result.now results
    c.or-stop.ensures c.first_stop.ensures c.served.ensures ∙ ap (λ s. option_or s (first_stop results)) h.stop) h.last at began w
