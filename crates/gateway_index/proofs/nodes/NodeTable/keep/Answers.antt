use Rattle.std.proofs.Common.{◌≡◌, List, sym, ap, ◌∙◌, arith, length, map, rules}
use Rattle.gateway_index.proofs.Names.{kept_slots, settled_slot, Slot}
use Rattle.gateway_index.proofs.NodeLemmas.{settled_beside, settled_nodes}
use Rattle.gateway_index.proofs.SlotLemmas.{all_same, count_still, settled, settled_length, settled_slots, settled_still}
use Rattle.gateway_index.proofs.nodes.NodeTable.keep.Goals as goal

pub invariant_of-self-2 : goal.invariant_of-self-2
invariant_of-self-2 c =
    let old = c.args.self.now in
    let kept = kept_slots c.args.firm old.firm old.slots.items in
    let count : c.cut-self.result ≡ length kept = c.cut-self.ensures.left ∙ ap (λ (xs : List Slot). length xs) c.cut-self.ensures.items in
    let slots : c.settle_all.new.slots.items ≡ settled c.args.firm old.firm old.slots.items =
    c.settle_all.ensures.items ∙ ap (λ (xs : List Slot). map (λ (slot : Slot). settled_slot c.args.firm slot) xs) c.cut-self.ensures.items in
    record {
      room = omega (arith, c.settle_all.ensures.room, c.cut-self.ensures.room);
      are_slots = rw slots (settled_slots c.args.firm old.firm c.cut-self.result old.slots.items old.are_slots count);
      same = λ e. rw slots (record { known = count ∙ sym (settled_length c.args.firm old.firm old.slots.items); openings = all_same c.args.firm kept });
      beside = rw slots (settled_beside old.are_slots old.beside c.keep.ensures.kept c.cut-self.result count);
    }

pub invariant_of-self : goal.invariant_of-self
invariant_of-self c = search (rules, settled_still, settled_beside, count_still)

pub returns-then-self-clause-sides : goal.returns-then-self-clause-sides
returns-then-self-clause-sides c = search (rules, settled_nodes, count_still, settled_still)

pub returns-clause-sides : goal.returns-clause-sides
returns-clause-sides c =
    settled_nodes c.args.firm c.args.self.now _ (c.cut-self.ensures.left ∙ ap (λ (xs : List Slot). length xs) c.cut-self.ensures.items)
    (c.settle_all.ensures.items ∙ ap (λ (xs : List Slot). map (λ (slot : Slot). settled_slot c.args.firm slot) xs) c.cut-self.ensures.items)
    c.keep.ensures.kept
