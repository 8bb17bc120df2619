use Rattle.std.proofs.Common.{◌∙◌, sym}
use Rattle.std.proofs.lemmas.Result.{IfOk-weaker}
use Rattle.replay_gateway.proofs.DeliveredLemmas.{comes_down, comes_in_time, comes_late}
use Rattle.replay_gateway.proofs.machine.Machine.deliver.Goals as goal

pub returns-then-is_down : goal.returns-then-is_down
returns-then-is_down c = λ setup place g m stands.
    comes_down _ _ g m _ _ _ stands (sym (c.is_down.ensures setup place g m stands) ∙ c.if-is_down.true)
    c.quiet.ensures.none c.quiet.ensures.came c.quiet.ensures.told

pub returns-then-is_broken : goal.returns-then-is_broken
returns-then-is_broken c = λ setup place g m stands.
    let runs = sym (c.is_down.ensures setup place g m stands) ∙ c.if-is_down.false in
    c.deliver_to_broken.ensures setup place g m stands runs
    (sym (c.is_broken.ensures setup place g m stands runs) ∙ c.if-is_broken.true)

pub returns-then-is_late : goal.returns-then-is_late
returns-then-is_late c = λ setup place g m stands.
    let runs = sym (c.is_down.ensures setup place g m stands) ∙ c.if-is_down.false in
    comes_late _ _ g m _ _ runs (sym (c.is_broken.ensures setup place g m stands runs) ∙ c.if-is_broken.false) _ stands
    (sym (c.is_late.ensures setup place g m stands runs) ∙ c.if-is_late.true) c.quiet-then-is_late.ensures.none
    c.quiet-then-is_late.ensures.came c.quiet-then-is_late.ensures.told

pub returns : goal.returns
returns c = λ setup place g m stands.
    let runs = sym (c.is_down.ensures setup place g m stands) ∙ c.if-is_down.false in
    let whole = sym (c.is_broken.ensures setup place g m stands runs) ∙ c.if-is_broken.false in
    IfOk-weaker _ _ _
    (λ delivery taken. comes_in_time _ _ g m _ _ runs whole
    (sym (c.is_late.ensures setup place g m stands runs) ∙ c.if-is_late.false) taken)
    (c.take.ensures setup place g m stands runs whole)
