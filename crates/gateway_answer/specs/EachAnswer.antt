-- What holds of each kind of answer holds of the answer to every request, and to every message of a path.
use Rattle.std.proofs.Common.{◌≡◌, ℕ, ◌==◌, Bool, true, false, if◌then◌else◌, List, Option, Some, None, map, refl}
use Rattle.std.specs.Option.{option_map}
use Rattle.gtpp_message.specs.Message.{TransferValue, Send, Possible, Cancel, Release}
use Rattle.gtpp_message.specs.Packet.{packet_octets}
use Rattle.gtpp_message.specs.declared.reading.Why.TheVariants.{NoRoom, Stray}
use Rattle.gw_base.specs.Nearest.{nearest}
use Rattle.gw_base.specs.Observed.{Observed}
use Rattle.gw_base.specs.declared.address.Addr.{Addr}
use Rattle.gw_base.specs.declared.address.NodeId.{NodeId}
use Rattle.gw_base.specs.declared.cause.TheConstants.{NO_RESOURCES, SYSTEM_FAILURE}
use Rattle.gw_base.specs.declared.history.HistoryAct.{HistoryAct}
use Rattle.gw_base.specs.declared.history.HistoryAct.TheVariants as act
use Rattle.gw_base.specs.declared.key_state.KeyState.{KeyState}
use Rattle.gw_base.specs.declared.key_state.KeyState.TheVariants.{Fresh}
use Rattle.path_mgmt.specs.GatewayPath.{opened_by}
use Rattle.path_mgmt.specs.declared.event.PathEvent.{PathEvent}
use Rattle.path_mgmt.specs.declared.event.PathEvent.TheVariants.{EchoAsked, EchoTold, AliveAsked, AliveTold}
use Rattle.transfer_cmd.specs.Lists.{verdict_cause, verdict_of}
use Rattle.transfer_cmd.specs.Table.{answer_cause, state_given}
use Rattle.transfer_cmd.specs.declared.decision.Ask.{Ask}
use Rattle.transfer_cmd.specs.declared.decision.Ask.TheVariants as ask
use Rattle.transfer_cmd.specs.declared.verdict.Verdict.{Verdict}
use Rattle.transfer_cmd.specs.declared.verdict.Verdict.TheVariants.{Wrong, Before, Change}
use Rattle.gateway_answer.specs.Answer.{Given, Drops, asked_by, listed, node_of, opening_epoch, path_given, recording, replying, responding, sent, tabled}
use Rattle.gateway_answer.specs.Asked.{act_of, changes, held_ones, recorded_as, sending, sending_again}
use Rattle.gateway_answer.specs.Marks.{is_mark}

-- P holds of each kind of answer: a response by a cause that isn't system failure, where nothing is recorded or what is
-- recorded is no mark; a message of a path; one that opens an epoch of the sender; and what is dropped as stray or for
-- want of room.
pub record HoldsOfEach (P : Given → Type 0) (from : Addr) : Type 0 where
  pub responded : (number cause : ℕ) → (cause == SYSTEM_FAILURE) ≡ false → P (responding number cause None)
  pub recorded : (number cause : ℕ) (a : HistoryAct) → (cause == SYSTEM_FAILURE) ≡ false → is_mark a ≡ false →
      P (responding number cause (Some a))
  pub told : (event : PathEvent) → P (replying (Some event) None)
  pub opened : (number counter : ℕ) →
      P (replying (Some (AliveTold number)) (Some (act.Path (node_of from) from.port counter)))
  pub stray : P (Drops Stray)
  pub no_room : P (Drops NoRoom)

-- no state of a number is answered by system failure
other_cause : (asked : Ask) (state : KeyState) → (answer_cause asked state == SYSTEM_FAILURE) ≡ false
other_cause ask.Send Fresh = refl
other_cause ask.Possible Fresh = refl
other_cause ask.Empty Fresh = refl
other_cause ask.Send _ = refl
other_cause ask.Possible _ = refl
other_cause ask.Empty _ = refl

-- what a request that sends a packet is recorded as is no mark
asked_no_mark : (asked : Ask) (node : NodeId) (x : ℕ) (packet : List ℕ) → is_mark (act_of asked node x packet) ≡ false
asked_no_mark ask.Send node x packet = refl
asked_no_mark ask.Possible node x packet = refl
asked_no_mark ask.Empty node x packet = refl

module _ (P : Given → Type 0) (from : Addr) (holds : HoldsOfEach P from) (o : Observed) (may : HistoryAct → Bool) where
  may_be_recorded : (number cause : ℕ) (a : HistoryAct) → (cause == SYSTEM_FAILURE) ≡ false → is_mark a ≡ false
      → P (recording may number cause a)
  may_be_recorded number cause a other isnt = by_test (may a)
    where
      by_test : (b : Bool) → P (if b then responding number cause (Some a) else responding number NO_RESOURCES None)
      by_test true = holds.recorded number cause a other isnt
      by_test false = holds.responded number NO_RESOURCES refl

  by_table : (number cause : ℕ) (asked : Ask) (node : NodeId) (x : ℕ) (packet : List ℕ) (given : Option KeyState)
      → (cause == SYSTEM_FAILURE) ≡ false → P (tabled may number cause (recorded_as asked node x packet given))
  by_table number cause asked node x packet None other = holds.responded number cause other
  by_table number cause asked node x packet (Some state) other =
      may_be_recorded number cause (act_of asked node x packet) other (asked_no_mark asked node x packet)

  by_sent : (node : NodeId) (number : ℕ) (asked : Ask) (packet : List ℕ) → P (sent o may node number asked packet)
  by_sent node number asked packet =
      by_table number (answer_cause asked (o.state (nearest o.top number))) asked node (nearest o.top number) packet
      (state_given asked (o.state (nearest o.top number))) (other_cause asked (o.state (nearest o.top number)))

  by_verdict : (number : ℕ) (release : Bool) (node : NodeId) (held : List ℕ) (verdict : Verdict)
      → P (tabled may number (verdict_cause verdict) (changes verdict release node held))
  by_verdict number release node held Wrong = holds.responded number (verdict_cause Wrong) refl
  by_verdict number release node held Before = holds.responded number (verdict_cause Before) refl
  by_verdict number true node held Change =
      may_be_recorded number (verdict_cause Change) (act.Release node held) refl refl
  by_verdict number false node held Change =
      may_be_recorded number (verdict_cause Change) (act.Cancel node held) refl refl

  by_list : (number : ℕ) (release : Bool) (node : NodeId) (numbers : List ℕ)
      → P (listed o may node number release numbers)
  by_list number release node numbers =
      by_verdict number release node (held_ones o (map (nearest o.top) numbers))
      (verdict_of release (map o.state (map (nearest o.top) numbers)))

  -- the answer to a request
  pub of_request : (node : NodeId) (number : ℕ) (body : TransferValue) → P (asked_by o may node number body)
  of_request node number (Send packet) = by_sent node number (sending packet) (packet_octets packet)
  of_request node number (Possible packet) = by_sent node number (sending_again packet) (packet_octets packet)
  of_request node number (Cancel numbers) = by_list number false node numbers
  of_request node number (Release numbers) = by_list number true node numbers

  by_opening : (number : ℕ) (changed : Option ℕ) → P (opening_epoch may from (Some (AliveTold number)) changed)
  by_opening number None = holds.told (AliveTold number)
  by_opening number (Some counter) = by_test (may (act.Path (node_of from) from.port counter))
    where
      by_test : (b : Bool)
          → P (if b then replying (Some (AliveTold number)) (Some (act.Path (node_of from) from.port counter))
          else Drops NoRoom)
      by_test true = holds.opened number counter
      by_test false = holds.no_room

  -- the answer to a message of a path
  pub of_path : (event : PathEvent) → P (path_given o may from event)
  of_path (EchoAsked number) = holds.told (EchoTold number o.own)
  of_path (EchoTold number counter) =
      by_opening number (opened_by (option_map (λ path. path.counter) o.opening) counter)
  of_path (AliveAsked number) = holds.told (EchoAsked number)
  of_path (AliveTold number) = holds.stray
