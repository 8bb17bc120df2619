use Rattle.std.proofs.Common.{◌∙◌, sym}
use Rattle.std.proofs.lemmas.Result.{on_ok_weaker}
use Rattle.replay_world.proofs.RunLemmas.{printed_none, went_on}
use Rattle.replay_world.proofs.replay.Replay.run_elsewhere.Goals as goal

pub returns-then-ran : goal.returns-then-ran
returns-then-ran c = λ v stands none elsewhere. (c.in_ok-ran.ensures v stands none).runs c.if-ran.true

pub returns-then-ran-2 : goal.returns-then-ran-2
returns-then-ran-2 c = λ v stands none elsewhere.
    let kept = (c.in_ok-ran.ensures v stands none).kept c.if-ran.false in
    went_on kept.1
    (printed_none c.run_at_gateway.new.out ((c.in_ok-ran-2.ensures v (rw kept.0 stands) none).runs c.if-ran-2.true))

pub returns : goal.returns
returns c = λ v stands none elsewhere.
    let first = c.in_ok-ran.ensures v stands none in
    let kept = first.kept c.if-ran.false in
    let stands_then = rw (← kept.0) at stands in
    let second = c.in_ok-ran-2.ensures v stands_then none in
    on_ok_weaker _ (λ ran. went_on kept.1 ran)
    (c.run_of_all.ensures v (rw (second.kept c.if-ran-2.false).0 stands_then) none elsewhere
    (sym first.kind ∙ c.if-ran.false) (sym second.kind ∙ c.if-ran-2.false))
