use Rattle.std.proofs.Common.{◌∙◌, refl, sym}
use Rattle.replay_gateway.proofs.Names.{asked_to_ready, IfOk-weaker, sequel_on, taken_of}
use Rattle.replay_gateway.proofs.AnsweredLemmas.{taken_answered, taken_dropped}
use Rattle.replay_gateway.proofs.machine.Machine.take.Goals as goal

pub returns-in-Drop : goal.returns-in-Drop
returns-in-Drop c = λ setup place g m stands runs whole.
    let s = sequel_on m (asked_to_ready g.book) in
    let got = c.outcome-made.ensures setup place g m stands runs in
    taken_dropped _ _ g m _ _ stands.unreached runs whole _ _ (sym got.1 ∙ c.in-Drop.is) got.0
    (c.in_ok-sent.ensures setup place g m (taken_of setup m g c.args.message.now c.args.now s).value s got.0) refl
    c.ending_of.ensures

pub returns-in-Answer : goal.returns-in-Answer
returns-in-Answer c = λ setup place g m stands runs whole.
    let s = sequel_on m (asked_to_ready g.book) in
    let got = c.outcome-made.ensures setup place g m stands runs in
    IfOk-weaker _ _ _
    (λ delivery answered. taken_answered _ _ g m _ _ stands.unreached runs whole _ (sym got.1 ∙ c.in-Answer.is) got.0
    (c.in_ok-sent.ensures setup place g m (taken_of setup m g c.args.message.now c.args.now s).value s got.0) answered)
    c.answer.ensures
