use Rattle.replay_gateway.proofs.Names.{asked_by, asked_value, fortune_by, IfOk-weaker, sequel_on}
use Rattle.replay_gateway.proofs.GoesLemmas.{asked_is, goes_as_armed}
use Rattle.replay_gateway.proofs.machine.Machine.ask.Goals as goal

pub returns : goal.returns
returns c = λ setup place g m stands runs.
    let asked = asked_by c.args.call g.book in
    let s = sequel_on m asked in
    let v = asked_value setup c.args.now c.args.call (fortune_by m.at_last s) g.book in
    let called = c.asked.ensures setup place g m stands runs in
    IfOk-weaker _ _ _
    (λ sent after_it. goes_as_armed _ _ g m _ _ v _ called
    (λ is. asked_is setup c.args.now g m c.args.call stands.unreached) after_it)
    (c.after_call.ensures setup place g m v s called)
