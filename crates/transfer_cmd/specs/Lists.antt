-- The rule for the commands that name a list of numbers, to release or to cancel the packets under them.
use Rattle.std.specs.Prelude.{ℕ, Bool, true, false, if◌then◌else◌, List, [], ◌∷◌}
use Rattle.std.specs.List.{list_any}
use Rattle.gw_base.specs.declared.cause.TheConstants.{ACCEPTED, DUPLICATE_ALREADY_FULFILLED, NUMBERS_INCORRECT}
pub use Rattle.gw_base.specs.HeldKeys.{is_held}
use Rattle.gw_base.specs.declared.key_state.KeyState.{KeyState}
use Rattle.gw_base.specs.declared.key_state.KeyState.TheVariants.{Held, Released, Cancelled}
use Rattle.transfer_cmd.specs.declared.verdict.Verdict.{Verdict}
use Rattle.transfer_cmd.specs.declared.verdict.Verdict.TheVariants.{Wrong, Before, Change}

-- whether a release may not name a number of this state
abbrev pub is_wrong_to_release : KeyState → Bool
is_wrong_to_release Held = false
is_wrong_to_release Released = false
is_wrong_to_release _ = true

-- whether a cancel may not name a number of this state
abbrev pub is_wrong_to_cancel : KeyState → Bool
is_wrong_to_cancel Held = false
is_wrong_to_cancel Cancelled = false
is_wrong_to_cancel _ = true

abbrev pub is_wrong : Bool → KeyState → Bool
is_wrong true = is_wrong_to_release
is_wrong false = is_wrong_to_cancel

-- wrong where the list is empty or names a number that is neither held nor released (cancelled) before; else already
-- done where none is held
abbrev pub verdict_of : Bool → List KeyState → Verdict
verdict_of release [] = Wrong
verdict_of release (s ∷ states) =
    if list_any (is_wrong release) (s ∷ states) then Wrong
    else (if list_any is_held (s ∷ states) then Change else Before)

-- the cause that answers a list by its verdict
abbrev pub verdict_cause : Verdict → ℕ
verdict_cause Wrong = NUMBERS_INCORRECT
verdict_cause Before = DUPLICATE_ALREADY_FULFILLED
verdict_cause Change = ACCEPTED
