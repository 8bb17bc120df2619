use Rattle.std.proofs.Common.{List, Some, length, ap, arith, true≢false, sym, ◌≡◌, rules}
use Rattle.gateway_index.proofs.Names.{length-map, reopened, Slot}
use Rattle.gateway_index.proofs.NodeLemmas.{learnt_are_slots, learnt_beside, learnt_inside, may_room, opened_step}
use Rattle.gateway_index.proofs.SlotLemmas.{slots_reopened}
use Rattle.gateway_index.proofs.nodes.NodeTable.open.Goals as goal

pub learn-place-requires-clause-place : goal.learn-place-requires-clause-place
learn-place-requires-clause-place c = may_room c.args.node c.args.self.now c.requires

pub clear-requires : goal.clear-requires
clear-requires c = learnt_inside c.args.self.now c.learn-place.ensures.learnt c.requires

pub invariant_of-self : goal.invariant_of-self
invariant_of-self c =
    let old = c.args.self.now in
    let known = c.learn-place.new.slots.items in
    let learnt = c.learn-place.ensures.learnt in
    let size : length c.reopen_all.new.slots.items ≡ length known =
    omega (arith, ap (λ (xs : List Slot). length xs) c.reopen_all.ensures.items, length-map known (λ (slot : Slot). reopened c.args.node.0 (Some c.args.opening) slot)) in
    record {
      room = omega (arith, c.learn-place.ensures.room, c.reopen_all.ensures.room);
      are_slots = rw c.reopen_all.ensures.items
          (slots_reopened old.firm c.args.node.0 (Some c.args.opening) known (learnt_are_slots old learnt c.requires));
      same = λ e. absurd (true≢false (sym e));
      beside = rw size (learnt_beside old learnt c.requires c.clear.ensures.step);
    }

pub returns : goal.returns
returns c = search (rules, opened_step)
