use Rattle.std.proofs.Common.{refl, rules}
use Rattle.gateway_index.specs.Index.{side_of}
use Rattle.gateway_index.proofs.HeldStates.{both_told, copied_held}
use Rattle.gateway_index.proofs.IndexLemmas.{few_held, new_facts, none_there, stepped}
use Rattle.gateway_index.proofs.index.Index.hold.Goals as goal

pub set-requires : goal.set-requires
set-requires c =
    let new = new_facts c.args.self.now c.args.node c.args.number c.requires.new in
    record { place = new.place; not_below = new.not_below; high = new.high }

pub hold-requires : goal.hold-requires
hold-requires c = record {
  free = none_there _ ((new_facts c.args.self.now c.args.node c.args.number c.requires.new).free);
  few = few_held c.args.self.now c.args.node c.requires.few;
}

pub invariant_of-self : goal.invariant_of-self
invariant_of-self c = search (rules, both_told, copied_held)

pub returns : goal.returns
unfolding side_of
returns c = stepped (λ side. side.totals) c.set.ensures.step c.hold.ensures refl refl
