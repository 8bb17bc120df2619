-- An answer records an act only where it accepts a request or opens an epoch.
use Rattle.std.proofs.Common.{◌≡◌, inl, inr, ℕ, Bool, true, false, if◌then◌else◌, List, Option, Some, None, refl, sym, ap, subst, map, ⊎_elim, ◌≢◌}
use Rattle.std.proofs.lemmas.Bool.{false≢true}
use Rattle.std.specs.Option.{option_map}
use Rattle.gtpp_message.specs.Message.{MessageValue, TransferValue, Send, Possible, Cancel, Release, TransferResponse}
use Rattle.gtpp_message.specs.declared.reading.Why.TheVariants.{NoRoom}
use Rattle.gw_base.specs.Observed.{Observed}
use Rattle.gw_base.specs.declared.address.Addr.{Addr}
use Rattle.gw_base.specs.declared.address.NodeId.{NodeId}
use Rattle.gw_base.specs.declared.cause.TheConstants.{ACCEPTED, NO_RESOURCES}
use Rattle.gw_base.specs.declared.history.HistoryAct.{HistoryAct}
use Rattle.gw_base.specs.declared.history.HistoryAct.TheVariants as act
use Rattle.gw_base.specs.declared.key_state.KeyState.{KeyState}
use Rattle.gw_base.specs.declared.key_state.KeyState.TheVariants.{Fresh}
use Rattle.gw_base.specs.Nearest.{nearest}
use Rattle.path_mgmt.specs.GatewayPath.{opened_by}
use Rattle.path_mgmt.specs.declared.event.PathEvent.{PathEvent}
use Rattle.path_mgmt.specs.declared.event.PathEvent.TheVariants.{EchoAsked, EchoTold, AliveAsked, AliveTold}
use Rattle.transfer_cmd.specs.Lists.{verdict_cause, verdict_of}
use Rattle.transfer_cmd.specs.Table.{answer_cause, state_given}
use Rattle.transfer_cmd.specs.declared.decision.Ask.{Ask}
use Rattle.transfer_cmd.specs.declared.decision.Ask.TheVariants as ask
use Rattle.transfer_cmd.specs.declared.verdict.Verdict.{Verdict}
use Rattle.transfer_cmd.specs.declared.verdict.Verdict.TheVariants.{Wrong, Before, Change}
use Rattle.gateway_answer.specs.Answer.{Given, Drops, Replies, answer_by, asked_by, listed, node_of, opening_epoch, path_given, recording, replying, responding, tabled}
use Rattle.gateway_answer.specs.Asked.{changes, held_ones, recorded_as}
use Rattle.gateway_answer.specs.Preparing.{PreparedValue, Drop, OtherVersion, Refused, Path, Request}
use Rattle.gateway_answer.specs.Recording.{Accepts, IfRecords}

module _ (o : Observed) (may : HistoryAct → Bool) (number : ℕ) where
  recorded : (a : HistoryAct) → IfRecords Accepts (recording may number ACCEPTED a)
  recorded a = by_test (may a)
    where
      by_test : (b : Bool) → IfRecords Accepts (if b then responding number ACCEPTED (Some a) else responding number NO_RESOURCES None)
      by_test true = inl refl
      by_test false = tt

  by_table : (node : NodeId) (meant : ℕ) (packet : List ℕ) (asked : Ask) (state : KeyState)
      → IfRecords Accepts (tabled may number (answer_cause asked state) (recorded_as asked node meant packet (state_given asked state)))
  by_table node meant packet ask.Send Fresh = recorded (act.File node meant packet)
  by_table node meant packet ask.Possible Fresh = recorded (act.Hold node meant packet)
  by_table node meant packet ask.Empty Fresh = recorded (act.Seal node meant)
  by_table node meant packet ask.Send _ = tt
  by_table node meant packet ask.Possible _ = tt
  by_table node meant packet ask.Empty _ = tt

  by_verdict : (node : NodeId) (release : Bool) (held : List ℕ) (verdict : Verdict) → IfRecords Accepts (tabled may number (verdict_cause verdict) (changes verdict release node held))
  by_verdict node release held Wrong = tt
  by_verdict node release held Before = tt
  by_verdict node true held Change = recorded (act.Release node held)
  by_verdict node false held Change = recorded (act.Cancel node held)

  by_list : (node : NodeId) (release : Bool) (numbers : List ℕ) → IfRecords Accepts (listed o may node number release numbers)
  by_list node release numbers =
      by_verdict node release (held_ones o (map (nearest o.top) numbers)) (verdict_of release (map o.state (map (nearest o.top) numbers)))

  by_request : (node : NodeId) (body : TransferValue) → IfRecords Accepts (asked_by o may node number body)
  by_request node (Send packet) = by_table node (nearest o.top number) _ _ (o.state (nearest o.top number))
  by_request node (Possible packet) = by_table node (nearest o.top number) _ _ (o.state (nearest o.top number))
  by_request node (Cancel numbers) = by_list node false numbers
  by_request node (Release numbers) = by_list node true numbers

module _ (o : Observed) (may : HistoryAct → Bool) (from : Addr) where
  by_opening : (number : ℕ) (changed : Option ℕ) → IfRecords Accepts (opening_epoch may from (Some (AliveTold number)) changed)
  by_opening number None = tt
  by_opening number (Some counter) = by_test (may (act.Path (node_of from) from.port counter))
    where
      by_test : (b : Bool) → IfRecords Accepts (if b then replying (Some (AliveTold number)) (Some (act.Path (node_of from) from.port counter)) else Drops NoRoom)
      by_test true = inr refl
      by_test false = tt

  by_path : (event : PathEvent) → IfRecords Accepts (path_given o may from event)
  by_path (EchoAsked number) = tt
  by_path (EchoTold number counter) = by_opening number (opened_by (option_map (λ path. path.counter) o.opening) counter)
  by_path (AliveAsked number) = tt
  by_path (AliveTold number) = tt

pub records_accepted : (o : Observed) (from : Addr) (datagram : PreparedValue) (may : HistoryAct → Bool) → IfRecords Accepts (answer_by o from datagram may)
records_accepted o from (Drop why) may = tt
records_accepted o from (OtherVersion number) may = tt
records_accepted o from (Refused cause number) may = tt
records_accepted o from (Path event) may = by_path o may from event
records_accepted o from (Request number body) may = by_request o may number (node_of from) body

abbrev cause_in : MessageValue → ℕ
cause_in (TransferResponse cause responded) = cause
cause_in _ = 0

abbrev is_response : MessageValue → Bool
is_response (TransferResponse cause responded) = true
is_response _ = false

-- a request that is answered with another cause records nothing
pub refused_records_nothing : (given : Given) → IfRecords Accepts given → (number cause : ℕ) (responded : List ℕ) (a : Option HistoryAct)
    → given ≡ Replies number (TransferResponse cause responded) a → cause ≢ ACCEPTED → a ≡ None
refused_records_nothing given accepts number cause responded None is other = refl
refused_records_nothing given accepts number cause responded (Some a) is other =
    ⊎_elim (λ e. absurd (other (ap cause_in e))) (λ e. absurd (false≢true (ap is_response (sym e)))) (subst (IfRecords Accepts) is accepts)
