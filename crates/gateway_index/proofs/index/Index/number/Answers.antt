use Rattle.std.proofs.Common.{refl, rules}
use Rattle.gateway_index.specs.Index.{side_of}
use Rattle.gateway_index.proofs.HeldStates.{both_told, numbered_held}
use Rattle.gateway_index.proofs.IndexLemmas.{held_stays, new_facts, stepped}
use Rattle.gateway_index.proofs.index.Index.number.Goals as goal

pub set-requires : goal.set-requires
set-requires c =
    let new = new_facts c.args.self.now c.args.node c.args.number c.requires.new in
    record { place = new.place; not_below = new.not_below; high = new.high }

pub invariant_of-self : goal.invariant_of-self
invariant_of-self c = search (rules, both_told, held_stays, numbered_held)

pub returns : goal.returns
unfolding side_of
returns c = stepped (λ side. side.totals) c.set.ensures.step held_stays refl refl
