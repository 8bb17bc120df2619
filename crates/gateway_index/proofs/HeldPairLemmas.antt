-- The copies that are held on two sides.
use Rattle.std.proofs.Common.{◌≡◌, ℕ, List, [], ◌∷◌, ◌++◌, refl, rules}
use Rattle.gateway_index.proofs.Names.{Copies, HeldPair, IsHeldStep, MayStep, MayStepEach, with_step, with_steps, without_copies, without_copy}
use Rattle.gateway_index.specs.declared.held_pair.CopyStep.{CopyStep}

-- ---- numbers taken out one after the other

without_more : (node : ℕ) (numbers : List ℕ) (number : ℕ) (copies : Copies)
    → without_copies node (numbers ++ number ∷ []) copies ≡ without_copy node number (without_copies node numbers copies)
unfolding without_copies
without_more node [] number copies = refl
without_more node (first ∷ numbers) number copies = without_more node numbers number (without_copy node first copies)

pub taken_none : (node : ℕ) (old : HeldPair) → IsHeldStep (without_copies node []) old old
unfolding without_copies
taken_none node old = record { live = refl; firm = refl }

pub taken_more : (node : ℕ) (numbers : List ℕ) (number : ℕ) {old now new : HeldPair} → IsHeldStep (without_copies node numbers) old now
    → IsHeldStep (without_copy node number) now new → IsHeldStep (without_copies node (numbers ++ number ∷ [])) old new
taken_more node numbers number so_far one = search (rules, without_more)

-- ---- steps that were noted

more_taken : (all : List CopyStep) (step : CopyStep) (copies : Copies) → MayStepEach all copies → MayStep step (with_steps all copies)
    → MayStepEach (all ++ step ∷ []) copies × (with_steps (all ++ step ∷ []) copies ≡ with_step step (with_steps all copies))
more_taken [] step copies may one = ((one, tt), refl)
more_taken (s ∷ all) step copies may one = let rest = more_taken all step (with_step s copies) may.1 one in ((may.0, rest.0), rest.1)

-- the live side took the step, and it is noted
pub noted : (all now : List CopyStep) (step : CopyStep) (firm live after : Copies) → now ≡ all ++ step ∷ [] → after ≡ with_step step live → MayStep step live
    → MayStepEach all firm × (with_steps all firm ≡ live) → MayStepEach now firm × (with_steps now firm ≡ after)
noted all now step firm live after more is may agree = rw (more, is, ← agree.1) (more_taken all step firm agree.0 (rw agree.1 may))

-- ---- one side
