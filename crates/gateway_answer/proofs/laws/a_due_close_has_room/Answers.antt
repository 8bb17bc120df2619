use Rattle.gateway_answer.proofs.Names.{moment_after, no_caller}
use Rattle.gateway_answer.proofs.laws.a_due_close_has_room.Goals as goal

pub returns : goal.returns
returns c = λ h size within due. c.a_due_close_has_room.ensures h (moment_after h 0) no_caller size within due
