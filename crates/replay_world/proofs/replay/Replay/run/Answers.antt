use Rattle.std.proofs.Common.{◌∙◌, sym}
use Rattle.std.proofs.lemmas.Result.{on_ok_weaker}
use Rattle.replay_world.proofs.RunLemmas.{went_on}
use Rattle.replay_world.proofs.replay.Replay.run.Goals as goal

pub returns-then-ran : goal.returns-then-ran
returns-then-ran c = λ v stands none. (c.in_ok-ran.ensures v stands none).runs c.if-ran.true

pub returns : goal.returns
returns c = λ v stands none.
    let first = c.in_ok-ran.ensures v stands none in
    let kept = first.kept c.if-ran.false in
    on_ok_weaker _ (λ ran. went_on kept.1 ran)
    (c.run_elsewhere.ensures v (rw kept.0 stands) none (sym first.kind ∙ c.if-ran.false))
