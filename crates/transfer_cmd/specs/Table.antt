-- The table of answers to the commands that send a packet (3GPP TS 32.295, clause 6.2.4.5), by the state of the
-- request's number. Which cause is answered in which state is this project's profile.
use Rattle.std.specs.Prelude.{ℕ, Option, Some, None}
use Rattle.gw_base.specs.declared.cause.TheConstants.{ACCEPTED, ALREADY_FULFILLED, DUPLICATE_ALREADY_FULFILLED, NOT_FULFILLED}
use Rattle.gw_base.specs.declared.key_state.KeyState.{KeyState}
use Rattle.gw_base.specs.declared.key_state.KeyState.TheVariants.{Fresh, Filed, Sealed, Held, Released, Cancelled}
use Rattle.transfer_cmd.specs.declared.decision.Ask.{Ask}
use Rattle.transfer_cmd.specs.declared.decision.Ask.TheVariants.{Send, Possible, Empty}

-- the cause that is answered
abbrev pub answer_cause : Ask → KeyState → ℕ
answer_cause Send Fresh = ACCEPTED
answer_cause Send Filed = ALREADY_FULFILLED
answer_cause Send Sealed = NOT_FULFILLED
answer_cause Send Held = DUPLICATE_ALREADY_FULFILLED
answer_cause Send Released = DUPLICATE_ALREADY_FULFILLED
answer_cause Send Cancelled = DUPLICATE_ALREADY_FULFILLED
answer_cause Possible Fresh = ACCEPTED
answer_cause Possible Filed = ALREADY_FULFILLED
answer_cause Possible Sealed = NOT_FULFILLED
answer_cause Possible Held = DUPLICATE_ALREADY_FULFILLED
answer_cause Possible Released = DUPLICATE_ALREADY_FULFILLED
answer_cause Possible Cancelled = DUPLICATE_ALREADY_FULFILLED
answer_cause Empty Fresh = ACCEPTED
answer_cause Empty Filed = ALREADY_FULFILLED
answer_cause Empty Sealed = ACCEPTED
answer_cause Empty Held = DUPLICATE_ALREADY_FULFILLED
answer_cause Empty Released = DUPLICATE_ALREADY_FULFILLED
answer_cause Empty Cancelled = DUPLICATE_ALREADY_FULFILLED

-- the state that the number gets, where the request calls for an entry
abbrev pub state_given : Ask → KeyState → Option KeyState
state_given Send Fresh = Some Filed
state_given Send Filed = None
state_given Send Sealed = None
state_given Send Held = None
state_given Send Released = None
state_given Send Cancelled = None
state_given Possible Fresh = Some Held
state_given Possible Filed = None
state_given Possible Sealed = None
state_given Possible Held = None
state_given Possible Released = None
state_given Possible Cancelled = None
state_given Empty Fresh = Some Sealed
state_given Empty Filed = None
state_given Empty Sealed = None
state_given Empty Held = None
state_given Empty Released = None
state_given Empty Cancelled = None
