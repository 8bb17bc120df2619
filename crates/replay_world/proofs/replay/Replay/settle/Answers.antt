use Rattle.std.proofs.Common.{◌∙◌, sym}
use Rattle.replay_world.proofs.Names.{Makes, Replay, settle_steps}
use Rattle.replay_world.proofs.RunLemmas.{failed_by, not_refused, ran_so, stays_failed, still_so}
use Rattle.replay_world.proofs.replay.Replay.settle.Goals as goal

pub returns-then-self-clause-fails : goal.returns-then-self-clause-fails
returns-then-self-clause-fails c = stays_failed _ _ c.if-self.true

pub returns-clause-ran : goal.returns-clause-ran
returns-clause-ran c = λ v stands ran.
    ran_so _ (sym c.ended.ensures.end ∙ ran)
    (still_so _ (λ (r : Replay). Makes v (settle_steps v) c.args.out.now c.settle_all-ran.new.out r) _ _
    c.ended.ensures.ok (c.settle_all-ran.ensures v stands))

pub returns-clause-ends : goal.returns-clause-ends
returns-clause-ends c = λ kind is. not_refused _ (sym c.ended.ensures.end ∙ is)

pub returns-clause-fails : goal.returns-clause-fails
returns-clause-fails c = failed_by _ _ _ _ _ c.ended.ensures.end c.ended.ensures.err c.if-self.false
