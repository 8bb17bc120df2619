use Rattle.session_tests.proofs.DeskLemmas.{address_stays}
use Rattle.session_tests.proofs.desk.answer.Goals as goal

pub returns-clause-address : goal.returns-clause-address
returns-clause-address g c = address_stays _ _ _ _ _ _ _ _ c.serve_one-served.ensures.tells
