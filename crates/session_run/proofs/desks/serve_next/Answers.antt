use Rattle.session_run.proofs.desks.serve_next.Goals as goal

pub returns-clause-worked : goal.returns-clause-worked
returns-clause-worked g c = (
  c.go_on-a.ensures.worked c.args.desks.0 c.take_all-works.ensures.takes.0,
  c.go_on-b.ensures.worked c.args.desks.1 c.take_all-works.ensures.takes.1,
)
