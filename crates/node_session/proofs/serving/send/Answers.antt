use Rattle.std.proofs.Common.{refl}
use Rattle.node_session.proofs.serving.send.Goals as goal

pub returns-in-Ok : goal.returns-in-Ok
returns-in-Ok g c = (_, c.in-Ok.ensures, refl)

pub returns-in-Err : goal.returns-in-Err
returns-in-Err g c = (_, c.in-Err.ensures, c.stopped.ensures)
