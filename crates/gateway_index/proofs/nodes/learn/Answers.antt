use Rattle.std.proofs.Common.{List, ap, ◌∙◌, arith, rules}
use Rattle.gateway_index.proofs.Names.{place_in, Slot}
use Rattle.gateway_index.proofs.NodeLemmas.{learnt_known, learnt_new}
use Rattle.gateway_index.proofs.SlotLemmas.{known_by_place, unknown_by_place}
use Rattle.gateway_index.proofs.nodes.learn.Goals as goal

pub push-requires : goal.push-requires
push-requires c = search (rules, unknown_by_place)

pub returns-then-place-len-clause-learnt : goal.returns-then-place-len-clause-learnt
returns-then-place-len-clause-learnt c = search (rules, learnt_known, known_by_place)

pub returns-clause-learnt : goal.returns-clause-learnt
returns-clause-learnt c =
    let here = c.place_of-place.ensures ∙ ap (λ (xs : List Slot). place_in xs c.args.node.0) c.deref.ensures.value in
    rw (c.push.ensures.items, here) (learnt_new c.args.node c.args.slots.now.items
    (unknown_by_place c.args.node c.args.slots.now.items (omega (arith, here, c.if-place-len.false, c.len.ensures))))
