use Rattle.std.proofs.Common.{[], refl}
use Rattle.replay_world.proofs.RunLemmas.{just_failed, not_failed, stays_failed}
use Rattle.replay_world.proofs.replay.Replay.summary.Goals as goal

pub returns-then-self-clause-fails : goal.returns-then-self-clause-fails
returns-then-self-clause-fails c = stays_failed _ [] c.if-self.true

pub returns-in-Ok-clause-sums : goal.returns-in-Ok-clause-sums
returns-in-Ok-clause-sums c = λ v stands. c.in-Ok.ensures v stands

pub returns-in-Ok-clause-fails : goal.returns-in-Ok-clause-fails
returns-in-Ok-clause-fails c = not_failed _ _ [] [] c.if-self.false

pub returns-in-Err-clause-fails : goal.returns-in-Err-clause-fails
returns-in-Err-clause-fails c = just_failed _ _ [] [] c.if-self.false refl
