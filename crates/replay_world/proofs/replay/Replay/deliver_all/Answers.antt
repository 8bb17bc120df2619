use Rattle.std.proofs.Common.{◌≡◌, ◌+◌, [], ◌∷◌, drop, map, drop_of_length-le, arith}
use Rattle.replay_world.proofs.Names.{after_steps, delivers, get_or_default, slice_index_or}
use Rattle.replay_world.proofs.DeliverLemmas.{flow_left, may_come_then}
use Rattle.replay_world.proofs.StepsLemmas.{does_one, so_far_all, so_far_ends, so_far_more, so_far_none}
use Rattle.replay_world.proofs.replay.Replay.deliver_all.Goals as goal

pub loop-number-init : goal.loop-number-init
loop-number-init c = λ v stands were. so_far_none v _ _ stands

pub loop-number-preserved : goal.loop-number-preserved
loop-number-preserved c = λ v stands were.
    let numbers = c.args.numbers.now in
    let i = c.loop-number.number-index in
    let x = slice_index_or numbers i 0 in
    let is = get_or_default numbers i 0 x c.loop-number-test.true in
    let so = rw (flow_left _ i c.loop-number-test.true is) at (c.loop-number.invariant v stands were) in
    let done = does_one
    (c.in_ok-goes_on.ensures (after_steps v so.front) so.does.makes.stands
    (may_come_then so.front i were c.loop-number-test.true is)) in
    so_far_more v (map delivers numbers) c.args.out.now (delivers x ∷ []) (map delivers (drop (i + 1) numbers))
    c.loop-number.out c.deliver.new.out c.loop-number.self c.deliver.new.self so (rw c.if-not-goes_on.false at done)

pub returns-then-not-goes_on : goal.returns-then-not-goes_on
returns-then-not-goes_on c = λ v stands were.
    let numbers = c.args.numbers.now in
    let i = c.loop-number.number-index in
    let x = slice_index_or numbers i 0 in
    let is = get_or_default numbers i 0 x c.loop-number-test.true in
    let so = rw (flow_left _ i c.loop-number-test.true is) at (c.loop-number.invariant v stands were) in
    let done = does_one
    (c.in_ok-goes_on.ensures (after_steps v so.front) so.does.makes.stands
    (may_come_then so.front i were c.loop-number-test.true is)) in
    so_far_ends v (map delivers numbers) c.args.out.now (delivers x ∷ []) (map delivers (drop (i + 1) numbers))
    c.loop-number.out c.deliver.new.out c.loop-number.self c.deliver.new.self so (rw c.if-not-goes_on.true at done)

pub returns : goal.returns
returns c = λ v stands were.
    let numbers = c.args.numbers.now in
    let none : drop c.loop-number.number-index numbers ≡ [] = drop_of_length-le numbers (omega arith) in
    so_far_all v _ _ (rw none at (c.loop-number.invariant v stands were))
