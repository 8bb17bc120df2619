use Rattle.std.proofs.Common.{sym}
use Rattle.replay_gateway.specs.Setup.{setup_of}
use Rattle.replay_world.proofs.BeginningLemmas.{each_next}
use Rattle.replay_world.proofs.replay.machines_of.Goals as goal

pub loop-place-init : goal.loop-place-init
loop-place-init c = λ set. rw c.new-gateways.ensures.items tt

pub loop-place-preserved : goal.loop-place-preserved
loop-place-preserved c = λ set.
    let s = setup_of c.args.script.now.lines in
    rw c.in_ok-push.ensures.items
    (each_next s _ (c.loop-place.invariant set) (c.in_ok-machine.ensures s set (sym c.in_ok-rules.ensures)))
