use Rattle.std.proofs.Common.{ap, arith, ◌∙◌}
use Rattle.session_run.proofs.Names.{first_stop, take_all}
use Rattle.session_run.proofs.StopLemmas.{next_stop}
use Rattle.session_run.proofs.desk.first_stop.Goals as goal

pub loop-answer-preserved : goal.loop-answer-preserved
loop-answer-preserved c =
    next_stop c.args.served.now c.loop-answer.answer-index _ c.loop-answer.stop c.stop_of.result c.or-stop.result c.loop-answer-test.true
    c.loop-answer.invariant c.stop_of.ensures c.or-stop.ensures

pub returns : goal.returns
returns c = c.loop-answer.invariant ∙ ap (λ rs. first_stop rs) (take_all c.loop-answer.answer-index c.args.served.now (omega arith))
