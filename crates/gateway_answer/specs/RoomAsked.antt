-- An answer asks of one act at most whether there is room for it.
use Rattle.std.proofs.Common.{◌≡◌, ℕ, Bool, true, false, ◌&&◌, if◌then◌else◌, Option, Some, None, refl, ap, map}
use Rattle.std.specs.Option.{option_map}
use Rattle.gtpp_message.specs.Message.{TransferValue, Send, Possible, Cancel, Release}
use Rattle.gtpp_message.specs.Packet.{packet_octets}
use Rattle.gtpp_message.specs.declared.reading.Why.TheVariants.{NoRoom}
use Rattle.gw_base.specs.Nearest.{nearest}
use Rattle.gw_base.specs.Observed.{Observed}
use Rattle.gw_base.specs.declared.address.Addr.{Addr}
use Rattle.gw_base.specs.declared.address.NodeId.{NodeId}
use Rattle.gw_base.specs.declared.cause.TheConstants.{NO_RESOURCES}
use Rattle.gw_base.specs.declared.history.HistoryAct.{HistoryAct}
use Rattle.gw_base.specs.declared.history.HistoryAct.TheVariants as act
use Rattle.path_mgmt.specs.GatewayPath.{opened_by}
use Rattle.path_mgmt.specs.declared.event.PathEvent.TheVariants.{EchoAsked, EchoTold, AliveAsked, AliveTold}
use Rattle.path_mgmt.specs.declared.event.PathEvent.{PathEvent}
use Rattle.transfer_cmd.specs.Lists.{verdict_cause, verdict_of}
use Rattle.transfer_cmd.specs.Table.{answer_cause, state_given}
use Rattle.gateway_answer.specs.Answer.{Given, Drops, answer_within, asked_by, may_record, node_of, opening_epoch, path_given, recording, replying, responding, tabled}
use Rattle.gateway_answer.specs.Answered.{act_given}
use Rattle.gateway_answer.specs.Asked.{changes, held_ones, recorded_as, sending, sending_again}
use Rattle.gateway_index.specs.Limits.{has_place, within_limits}
use Rattle.gateway_answer.specs.Preparing.{PreparedValue, Drop, OtherVersion, Refused, Path, Request}

-- two tests of room agree on the act that an answer records where there is room for any
abbrev pub Agree : (HistoryAct → Bool) → (HistoryAct → Bool) → Given → Type 0
Agree r s given = (a : HistoryAct) → act_given given ≡ Some a → r a ≡ s a

module _ (o : Observed) (r s : HistoryAct → Bool) where
  by_recording : (number cause : ℕ) (a : HistoryAct) → Agree r s (recording (may_record o (λ b. true)) number cause a) → recording (may_record o r) number cause a ≡ recording (may_record o s) number cause a
  by_recording number cause a agree = by_test (within_limits o a) agree
    where
      by_test : (w : Bool) → Agree r s (if w && true then responding number cause (Some a) else responding number NO_RESOURCES None)
          → (if w && r a then responding number cause (Some a) else responding number NO_RESOURCES None) ≡ (if w && s a then responding number cause (Some a) else responding number NO_RESOURCES None)
      by_test true agree = ap (λ (b : Bool). if b then responding number cause (Some a) else responding number NO_RESOURCES None) (agree a refl)
      by_test false agree = refl

  by_table : (number cause : ℕ) (a : Option HistoryAct) → Agree r s (tabled (may_record o (λ b. true)) number cause a) → tabled (may_record o r) number cause a ≡ tabled (may_record o s) number cause a
  by_table number cause None agree = refl
  by_table number cause (Some a) agree = by_recording number cause a agree

  by_request : (node : NodeId) (number : ℕ) (body : TransferValue) → Agree r s (asked_by o (may_record o (λ b. true)) node number body) → asked_by o (may_record o r) node number body ≡ asked_by o (may_record o s) node number body
  by_request node number (Send packet) agree =
      by_table number (answer_cause (sending packet) (o.state (nearest o.top number)))
      (recorded_as (sending packet) node (nearest o.top number) (packet_octets packet) (state_given (sending packet) (o.state (nearest o.top number)))) agree
  by_request node number (Possible packet) agree =
      by_table number (answer_cause (sending_again packet) (o.state (nearest o.top number)))
      (recorded_as (sending_again packet) node (nearest o.top number) (packet_octets packet) (state_given (sending_again packet) (o.state (nearest o.top number)))) agree
  by_request node number (Cancel numbers) agree =
      let meant = map (nearest o.top) numbers in let verdict = verdict_of false (map o.state meant) in
      by_table number (verdict_cause verdict) (changes verdict false node (held_ones o meant)) agree
  by_request node number (Release numbers) agree =
      let meant = map (nearest o.top) numbers in let verdict = verdict_of true (map o.state meant) in
      by_table number (verdict_cause verdict) (changes verdict true node (held_ones o meant)) agree

  by_opening : (from : Addr) (event : PathEvent) (changed : Option ℕ) → Agree r s (opening_epoch (may_record o (λ b. true)) from (Some event) changed) → opening_epoch (may_record o r) from (Some event) changed ≡ opening_epoch (may_record o s) from (Some event) changed
  by_opening from event None agree = refl
  by_opening from event (Some counter) agree = by_test (has_place o) agree
    where
      path : HistoryAct
      path = act.Path (node_of from) from.port counter

      by_test : (w : Bool) → Agree r s (if w && true then replying (Some event) (Some path) else Drops NoRoom)
          → (if w && r path then replying (Some event) (Some path) else Drops NoRoom) ≡ (if w && s path then replying (Some event) (Some path) else Drops NoRoom)
      by_test true agree = ap (λ (b : Bool). if b then replying (Some event) (Some path) else Drops NoRoom) (agree path refl)
      by_test false agree = refl

  by_path : (from : Addr) (event : PathEvent) → Agree r s (path_given o (may_record o (λ b. true)) from event) → path_given o (may_record o r) from event ≡ path_given o (may_record o s) from event
  by_path from (EchoAsked number) agree = refl
  by_path from (EchoTold number counter) agree = by_opening from (AliveTold number) (opened_by (option_map (λ path. path.counter) o.opening) counter) agree
  by_path from (AliveAsked number) agree = refl
  by_path from (AliveTold number) agree = refl

-- the answer is the same by tests of room that agree on the act that it records where there is room for any
pub room_asked : (o : Observed) (from : Addr) (datagram : PreparedValue) (r s : HistoryAct → Bool) → Agree r s (answer_within o from datagram (λ b. true)) → answer_within o from datagram r ≡ answer_within o from datagram s
room_asked o from (Drop why) r s agree = refl
room_asked o from (OtherVersion number) r s agree = refl
room_asked o from (Refused cause number) r s agree = refl
room_asked o from (Path event) r s agree = by_path o r s from event agree
room_asked o from (Request number body) r s agree = by_request o r s (node_of from) number body agree
