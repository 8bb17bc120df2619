use Rattle.replay_world.proofs.Names.{DoesAll, IfOk-weaker}
use Rattle.std.proofs.Common.{sym, subst}
use Rattle.replay_world.proofs.DeliverLemmas.{does_lose, lot_comes, lot_lost, lot_twice, lot_waits}
use Rattle.replay_world.proofs.StepsLemmas.{does_none, does_one}
use Rattle.replay_world.proofs.replay.Replay.draw.Goals as goal

pub returns-then-lot-eq0 : goal.returns-then-lot-eq0
returns-then-lot-eq0 c = λ v stands none.
    rw (lot_lost c.args.number c.if-lot-eq0.true) (does_lose v _ _ (c.pass.ensures v stands))

pub returns-then-lot-eq1 : goal.returns-then-lot-eq1
returns-then-lot-eq1 c = λ v stands none.
    IfOk-weaker c.deliver_twice.result _ _ (λ on done.
    subst (λ ss. DoesAll v ss c.args.out.now c.deliver_twice.new.out c.deliver_twice.new.self on)
    (sym (lot_twice c.args.number c.if-lot-eq1.true)) done) (c.deliver_twice.ensures v stands none)

pub returns-then-lot-eq2 : goal.returns-then-lot-eq2
returns-then-lot-eq2 c = λ v stands none. rw (lot_waits c.args.number c.if-lot-eq2.true) (does_none _ stands)

pub returns : goal.returns
returns c = λ v stands none.
    IfOk-weaker c.deliver.result _ _ (λ on done.
    subst (λ ss. DoesAll v ss c.args.out.now c.deliver.new.out c.deliver.new.self on)
    (sym (lot_comes c.args.number c.if-lot-eq0.false c.if-lot-eq1.false c.if-lot-eq2.false)) (does_one done))
    (c.deliver.ensures v stands none)
