-- The answers that change nothing.
use Rattle.std.specs.Prelude.{Some, None, false}
use Rattle.path_mgmt.specs.declared.event.PathAnswer.{PathAnswer}
use Rattle.path_mgmt.specs.declared.event.PathEvent.{PathEvent}

-- the event goes back to the sender, and nothing changes
abbrev pub replying : PathEvent → PathAnswer
replying event = record { reply = Some event; changed = None; alive = false }

-- nothing goes back, and nothing changes
abbrev pub silence : PathAnswer
silence = record { reply = None; changed = None; alive = false }
