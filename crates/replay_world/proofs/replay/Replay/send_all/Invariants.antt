use Rattle.replay_world.specs.Sending.{HasSent}
use Rattle.replay_world.proofs.replay.Replay.send_all.Given as goal

-- the messages so far were sent
abbrev pub invariant-loop-message : goal.invariant-loop-message
invariant-loop-message l = HasSent l.yielded l.fn.out l.out l.fn.self l.self
