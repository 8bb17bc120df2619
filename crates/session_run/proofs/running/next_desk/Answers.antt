use Rattle.std.proofs.Common.{rules}
use Rattle.session_run.proofs.running.next_desk.Goals as goal

pub returns-clause-pass : goal.returns-clause-pass
returns-clause-pass g c = (c.in-Some.pass, c.new.ensures.pass, search rules)
