use Rattle.std.proofs.Common.{rules, map-id}
use Rattle.replay_world.proofs.Names.{YieldsList-end, YieldsList-from_vec}
use Rattle.replay_world.proofs.StepsLemmas.{sent_both, sent_none}
use Rattle.replay_world.proofs.replay.Replay.send_all.Goals as goal

pub loop-message-init : goal.loop-message-init
loop-message-init c = sent_none _ _

pub loop-message-preserved : goal.loop-message-preserved
loop-message-preserved c = sent_both _ _ _ _ _ _ _ _ c.loop-message.invariant c.in_ok-send.ensures

pub returns : goal.returns
returns c =
    let end = YieldsList-end (YieldsList-from_vec {s = c.into_iter-message-iterator.result} c.args.messages.items
    (search rules) (search rules)) c.loop-message.yielded c.loop-message.message-iterator c.loop-message.yielded_by
    c.next.result c.next.new.self c.in-None.is c.next.ensures.steps in
    rw (← end.0, map-id) c.loop-message.invariant
