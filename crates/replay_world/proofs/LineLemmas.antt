-- Steps and lines move the world as their turns.
use Rattle.std.proofs.Common.{◌≡◌, ◌∙◌, refl, sym, ap, Bool, if◌then◌else◌, List, [], ◌∷◌, ◌++◌, true, false}
use Rattle.replay_world.proofs.Names.{after_step, after_steps, ends_line, Line, line_after, lines_after, ReplayValue, Rules, rules_in, Step, step_turns, steps_of, Turn, turn, turns, turns_by, turns_from, turns_of, World}

turns_append : (rules : Rules) (w : World) (first later : List Turn) →
    turns rules w (first ++ later) ≡ turns rules (turns rules w first) later
turns_append rules w [] later = refl
turns_append rules w (t ∷ first) later = turns_append rules (turn rules w t) first later

by_end : (ends : Bool) (v : ReplayValue) (step : Step) (later : List Step) →
    (after_steps (after_step v step) later).world
    ≡ turns (rules_in v.setup) (after_step v step).world (turns_by (after_step v step) later) →
    (if ends then after_step v step else after_steps (after_step v step) later).world
    ≡ turns (rules_in v.setup) v.world (step_turns v step ++ (if ends then [] else turns_by (after_step v step) later))
by_end true v step later ih = sym (turns_append (rules_in v.setup) v.world (step_turns v step) [])
by_end false v step later ih =
    ih ∙ sym (turns_append (rules_in v.setup) v.world (step_turns v step) (turns_by (after_step v step) later))

steps_world : (v : ReplayValue) (steps : List Step) →
    (after_steps v steps).world ≡ turns (rules_in v.setup) v.world (turns_by v steps)
steps_world v [] = refl
steps_world v (step ∷ later) = by_end (ends_line v step) v step later (steps_world (after_step v step) later)

pub line_world : (v : ReplayValue) (said : Line) →
    (line_after v said).world ≡ turns (rules_in v.setup) v.world (turns_of v said)
line_world v said = steps_world v (steps_of v said)

setup_if : (ends : Bool) (v : ReplayValue) (step : Step) (later : List Step) →
    (after_steps (after_step v step) later).setup ≡ v.setup →
    (if ends then after_step v step else after_steps (after_step v step) later).setup ≡ v.setup
setup_if true v step later ih = refl
setup_if false v step later ih = ih

steps_setup : (v : ReplayValue) (steps : List Step) → (after_steps v steps).setup ≡ v.setup
steps_setup v [] = refl
steps_setup v (step ∷ later) = setup_if (ends_line v step) v step later (steps_setup (after_step v step) later)

-- a line leaves the settings
pub line_setup : (v : ReplayValue) (said : Line) → (line_after v said).setup ≡ v.setup
line_setup v said = steps_setup v (steps_of v said)

pub lines_world : (v : ReplayValue) (lines : List Line) →
    (lines_after v lines).world ≡ turns (rules_in v.setup) v.world (turns_from v lines)
lines_world v [] = refl
lines_world v (said ∷ later) =
    lines_world (line_after v said) later
    ∙ ap (λ s. turns (rules_in s) (line_after v said).world (turns_from (line_after v said) later)) (line_setup v said)
    ∙ ap (λ w. turns (rules_in v.setup) w (turns_from (line_after v said) later)) (line_world v said)
    ∙ sym (turns_append (rules_in v.setup) v.world (turns_of v said) (turns_from (line_after v said) later))
