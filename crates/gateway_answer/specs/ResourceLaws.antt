-- Where there is room, no request is refused for want of resources.
use Rattle.std.proofs.Common.{◌≡◌, ℕ, ◌&&◌, Bool, true, false, if◌then◌else◌, List, Some, None, refl, map}
use Rattle.std.proofs.lemmas.Bool.{and_from, false≢true}
use Rattle.gtpp_message.specs.Message.{TransferValue, Send, Possible, Cancel, Release}
use Rattle.gtpp_message.specs.Packet.{packet_octets}
use Rattle.gw_base.specs.Nearest.{nearest}
use Rattle.gw_base.specs.Observed.{Observed}
use Rattle.gw_base.specs.declared.address.Addr.{Addr}
use Rattle.gw_base.specs.declared.address.NodeId.{NodeId}
use Rattle.gw_base.specs.declared.cause.TheConstants.{ACCEPTED, NO_RESOURCES}
use Rattle.gw_base.specs.declared.history.HistoryAct.{HistoryAct}
use Rattle.gw_base.specs.declared.history.HistoryAct.TheVariants as act
use Rattle.gw_base.specs.declared.key_state.KeyState.{KeyState}
use Rattle.gw_base.specs.declared.key_state.KeyState.TheVariants.{Fresh, Filed, Sealed, Held, Released, Cancelled}
use Rattle.transfer_cmd.specs.Lists.{verdict_cause, verdict_of}
use Rattle.transfer_cmd.specs.Table.{answer_cause, state_given}
use Rattle.transfer_cmd.specs.declared.decision.Ask.{Ask}
use Rattle.transfer_cmd.specs.declared.decision.Ask.TheVariants as ask
use Rattle.transfer_cmd.specs.declared.verdict.Verdict.{Verdict}
use Rattle.transfer_cmd.specs.declared.verdict.Verdict.TheVariants.{Wrong, Before, Change}
use Rattle.gateway_answer.specs.Answer.{Given, answer_within, asked_by, listed, may_record, node_of, recording, responding, tabled}
use Rattle.gateway_answer.specs.Answered.{act_given}
use Rattle.gateway_answer.specs.Asked.{changes, held_ones, recorded_as, sending, sending_again}
use Rattle.gateway_index.specs.Limits.{has_place, is_in_range, may_hold, within_limits}
use Rattle.gateway_answer.specs.Preparing.{Request}
use Rattle.gateway_answer.specs.Recording.{HasRoomFor, IsWithinLimits, is_without_resources}

three_hold : (a b c : Bool) → a ≡ true → b ≡ true → c ≡ true → (a && b && c) ≡ true
three_hold a b c p q r = rw (p, q, r) refl

module _ (o : Observed) (room : HistoryAct → Bool) (number : ℕ) where
  -- an answer has resources, where there is room for the act that it records if there is room for each
  abbrev HasResources : ((HistoryAct → Bool) → Given) → Type 0
  HasResources given = ((a : HistoryAct) → act_given (given (λ b. true)) ≡ Some a → room a ≡ true) → is_without_resources (given room) ≡ false

  recorded : (a : HistoryAct) → within_limits o a ≡ true → HasResources (λ r. recording (may_record o r) number ACCEPTED a)
  recorded a within has = by_test (within_limits o a) (room a) within (has a (by_limits (within_limits o a) within))
    where
      by_limits : (b : Bool) → b ≡ true → act_given (if b && true then responding number ACCEPTED (Some a) else responding number NO_RESOURCES None) ≡ Some a
      by_limits true e = refl
      by_limits false e = absurd (false≢true e)

      by_test : (b r : Bool) → b ≡ true → r ≡ true → is_without_resources (if b && r then responding number ACCEPTED (Some a) else responding number NO_RESOURCES None) ≡ false
      by_test true true e f = refl
      by_test true false e f = absurd (false≢true f)
      by_test false r e f = absurd (false≢true e)

  by_table : IsWithinLimits o number → (node : NodeId) (packet : List ℕ) (asked : Ask) (state : KeyState)
      → HasResources (λ r. tabled (may_record o r) number (answer_cause asked state) (recorded_as asked node (nearest o.top number) packet (state_given asked state)))
  by_table limits node packet ask.Send Fresh has =
      recorded (act.File node (nearest o.top number) packet) (and_from (has_place o) (is_in_range (nearest o.top number)) limits.place limits.range) has
  by_table limits node packet ask.Possible Fresh has =
      recorded (act.Hold node (nearest o.top number) packet)
      (three_hold (has_place o) (is_in_range (nearest o.top number)) (may_hold o) limits.place limits.range limits.copies) has
  by_table limits node packet ask.Empty Fresh has =
      recorded (act.Seal node (nearest o.top number)) (and_from (has_place o) (is_in_range (nearest o.top number)) limits.place limits.range) has
  by_table limits node packet ask.Send Filed has = refl
  by_table limits node packet ask.Send Sealed has = refl
  by_table limits node packet ask.Send Held has = refl
  by_table limits node packet ask.Send Released has = refl
  by_table limits node packet ask.Send Cancelled has = refl
  by_table limits node packet ask.Possible Filed has = refl
  by_table limits node packet ask.Possible Sealed has = refl
  by_table limits node packet ask.Possible Held has = refl
  by_table limits node packet ask.Possible Released has = refl
  by_table limits node packet ask.Possible Cancelled has = refl
  by_table limits node packet ask.Empty Filed has = refl
  by_table limits node packet ask.Empty Sealed has = refl
  by_table limits node packet ask.Empty Held has = refl
  by_table limits node packet ask.Empty Released has = refl
  by_table limits node packet ask.Empty Cancelled has = refl

  by_verdict : (node : NodeId) (release : Bool) (held : List ℕ) (verdict : Verdict)
      → HasResources (λ r. tabled (may_record o r) number (verdict_cause verdict) (changes verdict release node held))
  by_verdict node release held Wrong has = refl
  by_verdict node release held Before has = refl
  by_verdict node true held Change has = recorded (act.Release node held) refl has
  by_verdict node false held Change has = recorded (act.Cancel node held) refl has

  -- a list meets no limit
  pub by_list : (node : NodeId) (release : Bool) (numbers : List ℕ) → HasResources (λ r. listed o (may_record o r) node number release numbers)
  by_list node release numbers has =
      by_verdict node release (held_ones o (map (nearest o.top) numbers)) (verdict_of release (map o.state (map (nearest o.top) numbers))) has

  by_request : IsWithinLimits o number → (node : NodeId) (body : TransferValue) → HasResources (λ r. asked_by o (may_record o r) node number body)
  by_request limits node (Send packet) has = by_table limits node (packet_octets packet) (sending packet) (o.state (nearest o.top number)) has
  by_request limits node (Possible packet) has = by_table limits node (packet_octets packet) (sending_again packet) (o.state (nearest o.top number)) has
  by_request limits node (Cancel numbers) has = by_list node false numbers has
  by_request limits node (Release numbers) has = by_list node true numbers has

-- a request within the limits, with room for what it calls for, isn't refused for want of resources
pub room_is_enough : (o : Observed) (from : Addr) (number : ℕ) (body : TransferValue) (room : HistoryAct → Bool) → IsWithinLimits o number
    → HasRoomFor o from (Request number body) room → is_without_resources (answer_within o from (Request number body) room) ≡ false
room_is_enough o from number body room limits has = by_request o room number limits (node_of from) body has
