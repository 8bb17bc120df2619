-- What is held once some copies were held and taken out, one behind the other.
use Rattle.std.specs.Prelude.{◌≡◌, ◌<◌, List, [], ◌∷◌, None, ⊤}
use Rattle.std.specs.Coded.{×_prop, Unit-prop}
use Rattle.std.proofs.Props.{props}
use Rattle.dup_buffer.specs.Copies.{Copies, most_copies, with_copy, without_copy, without_node}
use Rattle.gateway_index.specs.Sides.{no_place}
use Rattle.gateway_index.specs.declared.held_pair.CopyStep.{CopyStep}
use Rattle.gateway_index.specs.declared.held_pair.CopyStep.TheVariants.{DropNode, Hold, Take}

-- behind one step
abbrev pub with_step : CopyStep → Copies → Copies
with_step (Hold node number) copies = with_copy node.0 number no_place copies
with_step (Take node number) copies = without_copy node.0 number copies
with_step (DropNode node) copies = without_node node.0 copies

-- whether a step may be taken: a copy is held that isn't yet, and of which there is a place
abbrev pub MayStep : CopyStep → Copies → Type 0
MayStep (Hold node number) copies = (copies.place_of node.0 number ≡ None) × (copies.count < most_copies)
MayStep (Take node number) copies = ⊤
MayStep (DropNode node) copies = ⊤

-- behind all these steps, in order
abbrev pub with_steps : List CopyStep → Copies → Copies
with_steps [] copies = copies
with_steps (step ∷ steps) copies = with_steps steps (with_step step copies)

-- all these may be taken, in order
abbrev pub MayStepEach : List CopyStep → Copies → Type 0
MayStepEach [] copies = ⊤
MayStepEach (step ∷ steps) copies = MayStep step copies × MayStepEach steps (with_step step copies)

-- that they may be is one fact: there are no two proofs of it
MayStep-prop : (step : CopyStep) (copies : Copies) → IsProp (MayStep step copies)
MayStep-prop (Hold node number) copies = hlevel props
MayStep-prop (Take node number) copies = Unit-prop
MayStep-prop (DropNode node) copies = Unit-prop

pub MayStepEach-prop : (steps : List CopyStep) (copies : Copies) → IsProp (MayStepEach steps copies)
MayStepEach-prop [] copies = Unit-prop
MayStepEach-prop (step ∷ steps) copies = ×_prop (MayStep-prop step copies) (MayStepEach-prop steps (with_step step copies))
