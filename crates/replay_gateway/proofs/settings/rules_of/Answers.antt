use Rattle.std.proofs.Common.{◌+◌, ◌++◌, length, drop, ap, sym, ◌∙◌, arith, append_assoc, append-nil, length-append}
use Rattle.replay_gateway.proofs.Names.{default_setup, flat_map, IsInRange, rules_in_line, slice_get_within}
use Rattle.replay_gateway.proofs.RangeLemmas.{back_in_range}
use Rattle.replay_gateway.proofs.ListLemmas.{all_at, none_at, rest_at}
use Rattle.replay_gateway.proofs.RestLemmas.{rules_after}
use Rattle.replay_gateway.proofs.settings.rules_of.Goals as goal

pub overflow_add-k : goal.overflow_add-k
overflow_add-k c =
    omega (arith, (back_in_range c.args.script.now c.kind-kind.ensures.reads).few, slice_get_within c.args.script.now.lines c.loop-line.k c.in-Some.line.now (sym c.in-Some.ensures))

pub loop-line-smaller : goal.loop-line-smaller
loop-line-smaller c = omega (arith, slice_get_within c.args.script.now.lines c.loop-line.k c.in-Some.line.now (sym c.in-Some.ensures))

pub add-requires-clause-range : goal.add-requires-clause-range
add-requires-clause-range c =
    all_at IsInRange c.args.script.now.lines c.loop-line.k
    (back_in_range c.args.script.now c.kind-kind.ensures.reads).each (sym c.in-Some.ensures)

pub add-requires-clause-room : goal.add-requires-clause-room
add-requires-clause-room c =
    let lines = c.args.script.now.lines in
    let later = flat_map rules_in_line (drop (c.loop-line.k + 1) lines) in
    let most = (back_in_range c.args.script.now c.kind-kind.ensures.reads).rules in
    let so_far = ap length c.loop-line.invariant.rules in
    let rest = ap (λ ls. length (flat_map rules_in_line ls)) (rest_at lines c.loop-line.k (sym c.in-Some.ensures)) in
    let parts = length-append c.loop-line.rules (flat_map rules_in_line (drop c.loop-line.k lines)) in
    omega (arith, length-append (rules_in_line c.in-Some.line.now) later)

pub loop-line-preserved : goal.loop-line-preserved
loop-line-preserved c =
    let lines = c.args.script.now.lines in
    let later = drop (c.loop-line.k + 1) lines in
    record {
      rules = ap (λ rules. rules ++ flat_map rules_in_line later) c.in_ok-add.ensures
          ∙ append_assoc c.loop-line.rules (rules_in_line c.in-Some.line.now) (flat_map rules_in_line later)
          ∙ ap (λ ls. c.loop-line.rules ++ flat_map rules_in_line ls)
          (sym (rest_at lines c.loop-line.k (sym c.in-Some.ensures))) ∙ c.loop-line.invariant.rules;
      within = omega (arith, slice_get_within lines c.loop-line.k c.in-Some.line.now (sym c.in-Some.ensures));
    }

pub returns : goal.returns
returns c =
    let lines = c.args.script.now.lines in
    sym (append-nil c.loop-line.rules)
    ∙ ap (λ ls. c.loop-line.rules ++ flat_map rules_in_line ls)
    (sym (none_at lines c.loop-line.k (sym c.in_default.ensures)))
    ∙ c.loop-line.invariant.rules ∙ sym (rules_after default_setup lines)
