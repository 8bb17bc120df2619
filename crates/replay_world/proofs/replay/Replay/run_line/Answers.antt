use Rattle.std.proofs.Common.{◌∙◌, sym}
use Rattle.replay_world.proofs.Names.{LineRan, Replay}
use Rattle.replay_world.proofs.RunLemmas.{failed_by, never_stands, not_failed, not_refused, ran_so, refused_so, same_kind, stays_failed, still_so}
use Rattle.replay_world.proofs.replay.Replay.run_line.Goals as goal

pub returns-then-self-clause-refused : goal.returns-then-self-clause-refused
returns-then-self-clause-refused c = λ v kind stands.
    never_stands c.args.self.now c.if-self.true stands.whole

pub returns-then-self-clause-fails : goal.returns-then-self-clause-fails
returns-then-self-clause-fails c = stays_failed _ _ c.if-self.true

pub returns-in-Some-clause-ran : goal.returns-in-Some-clause-ran
returns-in-Some-clause-ran c = λ v stands ran. cc

pub returns-in-Some-clause-refused : goal.returns-in-Some-clause-refused
returns-in-Some-clause-refused c = λ v kind stands. (
  λ is. sym (c.in-Some.ensures v stands) ∙ same_kind is,
  λ is. refused_so (c.in-Some.ensures v stands ∙ is),
)

pub returns-in-Some-clause-fails : goal.returns-in-Some-clause-fails
returns-in-Some-clause-fails c = not_failed _ _ _ _ c.if-self.false

pub returns-in-None-clause-ran : goal.returns-in-None-clause-ran
returns-in-None-clause-ran c = λ v stands ran.
    ran_so _ (sym c.ended.ensures.end ∙ ran)
    (still_so _ (λ (r : Replay). LineRan v c.args.line.now c.args.out.now c.run-ran.new.out r) _ _ c.ended.ensures.ok
    (c.run-ran.ensures v stands (sym (c.in-None.ensures v stands))))

pub returns-in-None-clause-refused : goal.returns-in-None-clause-refused
returns-in-None-clause-refused c = λ v kind stands. (
  λ is. not_refused _ (sym c.ended.ensures.end ∙ is),
  λ is. cc (c.in-None.ensures v stands),
)

pub returns-in-None-clause-kept : goal.returns-in-None-clause-kept
returns-in-None-clause-kept c = λ kind is. not_refused _ (sym c.ended.ensures.end ∙ is)

pub returns-in-None-clause-fails : goal.returns-in-None-clause-fails
returns-in-None-clause-fails c = failed_by _ _ _ _ _ c.ended.ensures.end c.ended.ensures.err c.if-self.false
