use Rattle.std.proofs.Common.{◌≡◌, ◌+◌, ◌%◌, [], drop, drop_of_length-le, arith}
use Rattle.replay_world.proofs.Names.{after_steps, get_or_default, lot_steps, mixed_steps, slice_index_or}
use Rattle.replay_world.proofs.DeliverLemmas.{may_come_then, mix_left}
use Rattle.replay_world.proofs.StepsLemmas.{so_far_all, so_far_ends, so_far_more, so_far_none}
use Rattle.replay_world.proofs.replay.Replay.draw_all.Goals as goal

pub loop-number-init : goal.loop-number-init
loop-number-init c = λ v stands were. so_far_none v _ _ stands

pub loop-number-preserved : goal.loop-number-preserved
loop-number-preserved c = λ v stands were.
    let numbers = c.args.numbers.now in
    let i = c.loop-number.number-index in
    let x = slice_index_or numbers i 0 in
    let is = get_or_default numbers i 0 x c.loop-number-test.true in
    let so = rw (mix_left _ _ i c.loop-number-test.true is c.next_word-word.ensures) at
    (c.loop-number.invariant v stands were) in
    let lot = lot_steps (c.next_word-word.result % 8) x in
    let done = c.in_ok-goes_on.ensures (after_steps v so.front) so.does.makes.stands
    (may_come_then so.front i were c.loop-number-test.true is) in
    so_far_more v (mixed_steps c.args.rng numbers) c.args.out.now lot
    (mixed_steps c.next_word-word.new.self (drop (i + 1) numbers)) c.loop-number.out c.draw.new.out c.loop-number.self
    c.draw.new.self so (rw c.if-not-goes_on.false at done)

pub returns-then-not-goes_on : goal.returns-then-not-goes_on
returns-then-not-goes_on c = λ v stands were.
    let numbers = c.args.numbers.now in
    let i = c.loop-number.number-index in
    let x = slice_index_or numbers i 0 in
    let is = get_or_default numbers i 0 x c.loop-number-test.true in
    let so = rw (mix_left _ _ i c.loop-number-test.true is c.next_word-word.ensures) at
    (c.loop-number.invariant v stands were) in
    let lot = lot_steps (c.next_word-word.result % 8) x in
    let done = c.in_ok-goes_on.ensures (after_steps v so.front) so.does.makes.stands
    (may_come_then so.front i were c.loop-number-test.true is) in
    so_far_ends v (mixed_steps c.args.rng numbers) c.args.out.now lot
    (mixed_steps c.next_word-word.new.self (drop (i + 1) numbers)) c.loop-number.out c.draw.new.out c.loop-number.self
    c.draw.new.self so (rw c.if-not-goes_on.true at done)

pub returns : goal.returns
returns c = λ v stands were.
    let numbers = c.args.numbers.now in
    let none : drop c.loop-number.number-index numbers ≡ [] = drop_of_length-le numbers (omega arith) in
    so_far_all v _ _ (rw none at (c.loop-number.invariant v stands were))
