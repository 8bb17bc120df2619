use Rattle.std.proofs.Common.{List, ap, refl, ◌∙◌, arith, rules}
use Rattle.gateway_index.proofs.Names.{place_in, Slot}
use Rattle.gateway_index.proofs.NodeLemmas.{beside_step, listed_none, listed_step}
use Rattle.gateway_index.proofs.nodes.NodeTable.set_within.Goals as goal

pub set_within-requires : goal.set_within-requires
set_within-requires c = omega (arith, c.if-place-len.false, c.len.ensures, c.args.self.now.are_slots.bound, c.args.self.now.beside.count)

pub invariant_of-self-clause-beside : goal.invariant_of-self-clause-beside
invariant_of-self-clause-beside c = search (rules, beside_step)

pub returns-then-place-len-clause-step : goal.returns-then-place-len-clause-step
returns-then-place-len-clause-step c = search (rules, listed_none)

pub returns-clause-step : goal.returns-clause-step
returns-clause-step c =
    let here = c.place_of-place.ensures ∙ ap (λ (slots : List Slot). place_in slots c.args.node.0) c.deref.ensures.value in
    listed_step c.args.node c.args.numbers.now c.args.state c.args.self.now _ refl refl here (omega (arith, c.if-place-len.false, c.len.ensures)) c.set_within.ensures.step
