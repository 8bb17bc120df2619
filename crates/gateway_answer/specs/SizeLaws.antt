-- The entry of what an answer records leaves room in a batch that has room for the answer.
use Rattle.std.proofs.Common.{◌≡◌, ℕ, ◌*◌, ◌≤◌, not, ◌==◌, Bool, true, false, if◌then◌else◌, List, [], ◌∷◌, ◌++◌, Option, Some, None, length, length-append, filter, map, refl, arith}
use Rattle.std.specs.List.{flat_map}
use Rattle.std.specs.Option.{option_map}
use Rattle.std.proofs.lemmas.List.{length-map}
use Rattle.std.proofs.lemmas.List.Sums.{count_by-le-length, length-filter}
use Rattle.byteorder.specs.Endian.{big_bytes}
use Rattle.entry_codec.specs.Spelling.{body}
use Rattle.gtpp_message.specs.Message.{MessageValue, TransferValue, Send, Possible, Cancel, Release}
use Rattle.gtpp_message.specs.Packet.{packet_octets}
use Rattle.gtpp_message.specs.declared.reading.Why.TheVariants.{NoRoom}
use Rattle.gw_base.specs.Lists.{once}
use Rattle.gw_base.specs.Nearest.{nearest}
use Rattle.gw_base.specs.Observed.{Observed}
use Rattle.gw_base.specs.declared.address.Addr.{Addr}
use Rattle.gw_base.specs.declared.address.NodeId.{NodeId}
use Rattle.gw_base.specs.declared.cause.TheConstants.{NO_RESOURCES}
use Rattle.gw_base.specs.declared.history.HistoryAct.{HistoryAct}
use Rattle.gw_base.specs.declared.history.HistoryAct.TheVariants as act
use Rattle.gw_base.specs.declared.key_state.KeyState.{KeyState}
use Rattle.path_mgmt.specs.GatewayPath.{opened_by}
use Rattle.path_mgmt.specs.declared.event.PathEvent.{PathEvent}
use Rattle.path_mgmt.specs.declared.event.PathEvent.TheVariants.{EchoAsked, EchoTold, AliveAsked, AliveTold}
use Rattle.transfer_cmd.specs.Lists.{is_held, verdict_cause, verdict_of}
use Rattle.transfer_cmd.specs.Table.{answer_cause, state_given}
use Rattle.transfer_cmd.specs.declared.decision.Ask.{Ask}
use Rattle.transfer_cmd.specs.declared.decision.Ask.TheVariants as ask
use Rattle.transfer_cmd.specs.declared.verdict.Verdict.{Verdict}
use Rattle.transfer_cmd.specs.declared.verdict.Verdict.TheVariants.{Wrong, Before, Change}
use Rattle.gateway_answer.specs.Answer.{Drops, answer_by, asked_by, listed, node_of, opening_epoch, path_given, recording, replying, responding, sent, tabled}
use Rattle.gateway_answer.specs.Asked.{act_of, changes, held_ones, recorded_as, sending, sending_again}
use Rattle.gateway_answer.specs.Preparing.{IsShort, PreparedValue, Drop, OtherVersion, Refused, Path, Request}
use Rattle.gateway_answer.specs.Recording.{IfRecords}

-- an act whose entry has at most 270,000 octets: 25 of them stand before the body
abbrev pub IsBrief : HistoryAct → Type 0
IsBrief a = length (body a) ≤ 269975

-- ---- lists

once_length : (xs : List ℕ) → length (once (λ x y. x == y) xs) ≤ length xs
once_length [] = omega arith
once_length (x ∷ xs) =
    omega (arith, once_length xs, length-filter (λ y. not (x == y)) (once (λ x y. x == y) xs), count_by-le-length (λ y. not (x == y)) (once (λ x y. x == y) xs))

held_length : (o : Observed) (top : Option ℕ) (numbers : List ℕ) → length (held_ones o (map (nearest top) numbers)) ≤ length numbers
held_length o top numbers =
    let xs = map (nearest top) numbers in
    omega (arith, once_length (filter (λ x. is_held (o.state x)) xs), length-filter (λ x. is_held (o.state x)) xs, count_by-le-length (λ x. is_held (o.state x)) xs, length-map numbers (nearest top))

numbers_length : (xs : List ℕ) → length (flat_map (big_bytes 8) xs) ≡ 8 * length xs
numbers_length [] = refl
numbers_length (x ∷ xs) = omega (arith, length-append (big_bytes 8 x) (flat_map (big_bytes 8) xs), numbers_length xs)

list_brief : (node : NodeId) (xs : List ℕ) → length xs ≤ 32767 → length (big_bytes 4 node.0 ++ (big_bytes 4 (length xs) ++ flat_map (big_bytes 8) xs)) ≤ 269975
list_brief node xs short =
    omega (arith, short, numbers_length xs, length-append (big_bytes 4 node.0) (big_bytes 4 (length xs) ++ flat_map (big_bytes 8) xs), length-append (big_bytes 4 (length xs)) (flat_map (big_bytes 8) xs))

packet_brief : (node : NodeId) (x : ℕ) (packet : List ℕ) → length packet ≤ 65535 → length (big_bytes 4 node.0 ++ (big_bytes 8 x ++ packet)) ≤ 269975
packet_brief node x packet short =
    omega (arith, short, length-append (big_bytes 4 node.0) (big_bytes 8 x ++ packet), length-append (big_bytes 8 x) packet)

asked_brief : (asked : Ask) (node : NodeId) (x : ℕ) (packet : List ℕ) → length packet ≤ 65535 → IsBrief (act_of asked node x packet)
asked_brief ask.Send node x packet short = packet_brief node x packet short
asked_brief ask.Possible node x packet short = packet_brief node x packet short
asked_brief ask.Empty node x packet short = omega (arith, length-append (big_bytes 4 node.0) (big_bytes 8 x))

-- ---- answers

abbrev pub Brief : ℕ → MessageValue → HistoryAct → Type 0
Brief number message a = IsBrief a

module _ (o : Observed) (may : HistoryAct → Bool) where
  recorded : (number cause : ℕ) (a : HistoryAct) → IsBrief a → IfRecords Brief (recording may number cause a)
  recorded number cause a brief = by_test (may a)
    where
      by_test : (b : Bool) → IfRecords Brief (if b then responding number cause (Some a) else responding number NO_RESOURCES None)
      by_test true = brief
      by_test false = tt

  by_table : (number cause : ℕ) (asked : Ask) (node : NodeId) (x : ℕ) (packet : List ℕ) (given : Option KeyState) → length packet ≤ 65535 → IfRecords Brief (tabled may number cause (recorded_as asked node x packet given))
  by_table number cause asked node x packet None short = tt
  by_table number cause asked node x packet (Some state) short = recorded number cause (act_of asked node x packet) (asked_brief asked node x packet short)

  by_verdict : (number : ℕ) (release : Bool) (node : NodeId) (held : List ℕ) (verdict : Verdict) → length held ≤ 32767 → IfRecords Brief (tabled may number (verdict_cause verdict) (changes verdict release node held))
  by_verdict number release node held Wrong short = tt
  by_verdict number release node held Before short = tt
  by_verdict number true node held Change short = recorded number (verdict_cause Change) (act.Release node held) (list_brief node held short)
  by_verdict number false node held Change short = recorded number (verdict_cause Change) (act.Cancel node held) (list_brief node held short)

  by_list : (number : ℕ) (release : Bool) (node : NodeId) (numbers : List ℕ) → length numbers ≤ 32767 → IfRecords Brief (listed o may node number release numbers)
  by_list number release node numbers short =
      by_verdict number release node (held_ones o (map (nearest o.top) numbers)) (verdict_of release (map o.state (map (nearest o.top) numbers))) (omega (arith, short, held_length o o.top numbers))

  by_sent : (node : NodeId) (number : ℕ) (asked : Ask) (packet : List ℕ) → length packet ≤ 65535 → IfRecords Brief (sent o may node number asked packet)
  by_sent node number asked packet short =
      by_table number (answer_cause asked (o.state (nearest o.top number))) asked node (nearest o.top number) packet (state_given asked (o.state (nearest o.top number))) short

  by_request : (node : NodeId) (number : ℕ) (body : TransferValue) → IsShort (Request number body) → IfRecords Brief (asked_by o may node number body)
  by_request node number (Send packet) short = by_sent node number (sending packet) (packet_octets packet) short
  by_request node number (Possible packet) short = by_sent node number (sending_again packet) (packet_octets packet) short
  by_request node number (Cancel numbers) short = by_list number false node numbers short
  by_request node number (Release numbers) short = by_list number true node numbers short

  by_opening : (from : Addr) (told : ℕ) (changed : Option ℕ) → IfRecords Brief (opening_epoch may from (Some (AliveTold told)) changed)
  by_opening from told None = tt
  by_opening from told (Some counter) = by_test (may (act.Path (node_of from) from.port counter))
    where
      by_test : (b : Bool) → IfRecords Brief (if b then replying (Some (AliveTold told)) (Some (act.Path (node_of from) from.port counter)) else Drops NoRoom)
      by_test true = omega (arith, length-append (big_bytes 4 from.ip) (big_bytes 2 from.port ++ big_bytes 1 counter), length-append (big_bytes 2 from.port) (big_bytes 1 counter))
      by_test false = tt

  by_path : (from : Addr) (event : PathEvent) → IfRecords Brief (path_given o may from event)
  by_path from (EchoAsked told) = tt
  by_path from (EchoTold told counter) = by_opening from told (opened_by (option_map (λ path. path.counter) o.opening) counter)
  by_path from (AliveAsked told) = tt
  by_path from (AliveTold told) = tt

-- the entry of each act that an answer to a short request records is brief
pub records_brief : (o : Observed) (from : Addr) (datagram : PreparedValue) (may : HistoryAct → Bool) → IsShort datagram → IfRecords Brief (answer_by o from datagram may)
records_brief o from (Drop why) may short = tt
records_brief o from (OtherVersion number) may short = tt
records_brief o from (Refused cause number) may short = tt
records_brief o from (Path event) may short = by_path o may from event
records_brief o from (Request number body) may short = by_request o may (node_of from) number body short
