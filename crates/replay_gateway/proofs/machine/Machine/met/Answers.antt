use Rattle.std.proofs.Common.{◌∙◌, sym}
use Rattle.replay_gateway.proofs.DeliveredLemmas.{met_broken, met_down, met_late, met_taken}
use Rattle.replay_gateway.proofs.machine.Machine.met.Goals as goal

pub returns-then-is_down : goal.returns-then-is_down
returns-then-is_down c = λ setup place g m stands.
    sym (met_down g c.args.message.now (sym (c.is_down.ensures setup place g m stands) ∙ c.if-is_down.true))

pub returns-then-is_broken : goal.returns-then-is_broken
returns-then-is_broken c = λ setup place g m stands.
    let runs = sym (c.is_down.ensures setup place g m stands) ∙ c.if-is_down.false in
    sym (met_broken g c.args.message.now runs (sym (c.is_broken.ensures setup place g m stands runs) ∙ c.if-is_broken.true))

pub returns-then-is_late : goal.returns-then-is_late
returns-then-is_late c = λ setup place g m stands.
    let runs = sym (c.is_down.ensures setup place g m stands) ∙ c.if-is_down.false in
    sym (met_late g c.args.message.now runs (sym (c.is_broken.ensures setup place g m stands runs) ∙ c.if-is_broken.false)
    (sym (c.is_late.ensures setup place g m stands runs) ∙ c.if-is_late.true))

pub returns : goal.returns
returns c = λ setup place g m stands.
    let runs = sym (c.is_down.ensures setup place g m stands) ∙ c.if-is_down.false in
    sym (met_taken g c.args.message.now runs (sym (c.is_broken.ensures setup place g m stands runs) ∙ c.if-is_broken.false)
    (sym (c.is_late.ensures setup place g m stands runs) ∙ c.if-is_late.false))
