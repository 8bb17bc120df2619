use Rattle.std.proofs.Common.{refl, arith, rules}
use Rattle.gateway_index.proofs.NodeLemmas.{both_still, learnt_are_slots, learnt_beside, learnt_inside, learnt_not_below, learnt_same, learnt_still, may_room, numbered_step}
use Rattle.gateway_index.proofs.nodes.NodeTable.set.Goals as goal

pub learn-place-requires-clause-place : goal.learn-place-requires-clause-place
learn-place-requires-clause-place c = may_room c.args.node c.args.self.now c.requires.place

pub set-requires-clause-inside : goal.set-requires-clause-inside
set-requires-clause-inside c = learnt_inside c.args.self.now c.learn-place.ensures.learnt c.requires.place

pub set-requires-clause-not_below : goal.set-requires-clause-not_below
set-requires-clause-not_below c =
    learnt_not_below c.args.self.now c.learn-place.ensures.learnt c.requires.place c.args.number c.requires.not_below

pub invariant_of-self : goal.invariant_of-self
invariant_of-self c =
    let old = c.args.self.now in
    let learnt = c.learn-place.ensures.learnt in
    record {
      room = omega (arith, c.learn-place.ensures.room);
      are_slots = learnt_are_slots old learnt c.requires.place;
      same = λ e. let still = both_still old.is_same c.learn-place.result _ _ c.is_still-self.ensures e in
          learnt_still learnt old.firm (omega (arith, still.1, c.len-count.ensures)) (old.same still.0);
      beside = learnt_beside old learnt c.requires.place c.set.ensures.step;
    }

pub returns-clause-step : goal.returns-clause-step
returns-clause-step c = numbered_step c.args.node c.args.number c.args.state c.args.self.now _ refl c.learn-place.ensures.learnt c.set.ensures.step

pub returns-clause-same : goal.returns-clause-same
returns-clause-same c = search (rules, learnt_same)
