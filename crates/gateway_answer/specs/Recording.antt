-- What answers record, for laws.
use Rattle.std.specs.Prelude.{◌≡◌, ◌⊎◌, ℕ, ◌==◌, Bool, true, false, [], ◌∷◌, Some, None, ⊤}
use Rattle.gtpp_message.specs.Message.{MessageValue, NodeAliveResponse, TransferResponse}
use Rattle.gtpp_message.specs.declared.reading.Why.TheVariants.{Device}
use Rattle.gw_base.specs.Observed.{Observed}
use Rattle.gw_base.specs.Nearest.{nearest}
use Rattle.gw_base.specs.declared.address.Addr.{Addr}
use Rattle.gw_base.specs.declared.address.NodeId.{NodeId}
use Rattle.gw_base.specs.declared.cause.TheConstants.{ACCEPTED, NO_RESOURCES, SYSTEM_FAILURE}
use Rattle.gw_base.specs.declared.history.HistoryAct.{HistoryAct}
use Rattle.gateway_answer.specs.Answer.{Given, Drops, Replies, answer_within}
use Rattle.gateway_answer.specs.Answered.{act_given}
use Rattle.gateway_answer.specs.Fit.{is_act_fit, is_act_lawful}
use Rattle.gateway_index.specs.Limits.{has_place, is_in_range, may_hold, within_limits}
use Rattle.gateway_answer.specs.Preparing.{PreparedValue}

-- P holds of the number, the message and the act of an answer that records one
abbrev pub IfRecords : (ℕ → MessageValue → HistoryAct → Type 0) → Given → Type 0
IfRecords P (Drops why) = ⊤
IfRecords P (Replies number message None) = ⊤
IfRecords P (Replies number message (Some act)) = P number message act

-- the message accepts the request with this number, or answers Node Alive
abbrev pub Accepts : ℕ → MessageValue → HistoryAct → Type 0
Accepts number message act = (message ≡ TransferResponse ACCEPTED (number ∷ [])) ⊎ (message ≡ NodeAliveResponse)

-- The act keeps to the table of answers by what is observed, and may be recorded; it is fit where it is within the
-- limits of the node that asked.
pub record IsTabled (of : NodeId → Observed) (node : NodeId) (may : HistoryAct → Bool) (act : HistoryAct) : Type 0 where
  pub lawful : is_act_lawful of act ≡ true
  pub allowed : may act ≡ true
  pub fit : within_limits (of node) act ≡ true → is_act_fit of act ≡ true

-- the act is fit by what is observed, and there is room for it
abbrev pub Fits : (NodeId → Observed) → (HistoryAct → Bool) → ℕ → MessageValue → HistoryAct → Type 0
Fits of room number message act = (is_act_fit of act ≡ true) × (room act ≡ true)

-- whether an answer says that no resources are available
abbrev pub is_without_resources : Given → Bool
is_without_resources (Replies number (TransferResponse cause responded) act) = cause == NO_RESOURCES
is_without_resources _ = false

-- whether an answer says that the device failed: a request is answered by the cause system failure, and anything else
-- is dropped as `Device`
abbrev pub tells_a_fault : Given → Bool
tells_a_fault (Drops Device) = true
tells_a_fault (Replies number (TransferResponse cause responded) act) = cause == SYSTEM_FAILURE
tells_a_fault _ = false

-- whatever act a request calls for, there is room for it: for the one that would be recorded if there were room for
-- each
abbrev pub HasRoomFor : Observed → Addr → PreparedValue → (HistoryAct → Bool) → Type 0
HasRoomFor o from datagram room = (a : HistoryAct) → act_given (answer_within o from datagram (λ b. true)) ≡ Some a → room a ≡ true

-- the limits that a request may meet: of nodes, of held copies and of numbers
pub record IsWithinLimits (o : Observed) (number : ℕ) : Type 0 where
  pub place : has_place o ≡ true
  pub copies : may_hold o ≡ true
  pub range : is_in_range (nearest o.top number) ≡ true
