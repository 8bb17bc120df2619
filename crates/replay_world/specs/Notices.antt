-- What a replay prints: one line for each thing that is told. Gateways and nodes are counted from 1 there.
use Rattle.std.specs.Prelude.{ℕ, suc, Bool, if◌then◌else◌, List, [], ◌∷◌, ◌++◌, codes}
use Rattle.std.specs.Fmt.{decimal}
use Rattle.std.specs.List.{flat_map}
use Rattle.gtpp_message.specs.Names.{name_of}
use Rattle.gtpp_message.specs.declared.reading.Why.{Why}
use Rattle.hex.specs.Hex.{encode_upper}
use Rattle.node_core.specs.declared.fault.DraftFault.{DraftFault}
use Rattle.node_core.specs.declared.fault.DraftFault.TheVariants as draft
use Rattle.node_core.specs.declared.fault.SubmitFault.{SubmitFault}
use Rattle.node_core.specs.declared.fault.SubmitFault.TheVariants as submit
use Rattle.node_core.specs.declared.port.Port.{Port}
use Rattle.node_core.specs.declared.port.Port.TheVariants.{First, Second}
use Rattle.once_core.specs.declared.message.Message.{Message}

-- What is told, by the places of gateways and nodes, from 0, and by the numbers of messages and packets, from 1.
pub data Notice : Type 0 where
  -- a message was sent
  Sent : (number : ℕ) (message : Message) → Notice
  -- a node took a packet, or refused it for this reason
  Took : (node packet : ℕ) → Notice
  Refused : (reason : List ℕ) → Notice
  -- a packet became resolved, or done
  Resolved : (node packet : ℕ) → Notice
  Finished : (node packet : ℕ) → Notice
  -- a message wasn't delivered, as it is expired, or its receiver is stopped or halted, or was dropped
  Expired : (message : ℕ) → Notice
  Down : (message : ℕ) → Notice
  Dropped : (message : ℕ) (why : Why) → Notice
  -- the area of a gateway failed, or its shelf did, or it was stopped
  Faulted : (gateway : ℕ) → Notice
  ShelfFaulted : (gateway : ℕ) → Notice
  Stopped : (gateway : ℕ) → Notice

-- Names.

abbrev pub draft_fault_name : DraftFault → List ℕ
draft_fault_name draft.Count = codes "Count"
draft_fault_name draft.TooBig = codes "TooBig"
draft_fault_name (draft.Ber fault) = codes "Ber"
draft_fault_name draft.NoMemory = codes "NoMemory"

abbrev pub submit_fault_name : SubmitFault → List ℕ
submit_fault_name submit.Empty = codes "Empty"
submit_fault_name submit.InFlight = codes "InFlight"
submit_fault_name (submit.NumbersOut gateway oldest next) = codes "NumbersOut"
submit_fault_name submit.NoMemory = codes "NoMemory"

-- `gG`, and `nN:P` of a node's port
abbrev pub gateway_name : ℕ → List ℕ
gateway_name gateway = codes "g" ++ decimal (suc gateway)

abbrev pub port_name : Port → List ℕ
port_name First = codes ":1"
port_name Second = codes ":2"

abbrev pub node_name : ℕ → Port → List ℕ
node_name node port = codes "n" ++ decimal (suc node) ++ port_name port

-- from whom a message is, and to whom
abbrev pub ends_named : Bool → List ℕ → List ℕ → List ℕ
ends_named to_gateway gateway node =
    if to_gateway then node ++ codes " " ++ gateway else gateway ++ codes " " ++ node

abbrev pub ends_of : Message → List ℕ
ends_of m = ends_named m.to_gateway (gateway_name m.gateway) (node_name m.node m.port)

-- `N.P`
abbrev pub packet_name : ℕ → ℕ → List ℕ
packet_name node packet = decimal (suc node) ++ codes "." ++ decimal packet

-- Lines, each with its line feed.

abbrev pub notice_words : Notice → List ℕ
notice_words (Sent number m) =
    codes "m " ++ decimal number ++ codes " " ++ ends_of m ++ codes " " ++ encode_upper m.octets
notice_words (Took node packet) = codes "packet " ++ packet_name node packet
notice_words (Refused reason) = codes "refused " ++ reason
notice_words (Resolved node packet) = codes "resolved " ++ packet_name node packet
notice_words (Finished node packet) = codes "done " ++ packet_name node packet
notice_words (Expired message) = codes "expired " ++ decimal message
notice_words (Down message) = codes "down " ++ decimal message
notice_words (Dropped message why) = codes "drop " ++ decimal message ++ codes " " ++ name_of why
notice_words (Faulted gateway) = codes "fault " ++ decimal (suc gateway)
notice_words (ShelfFaulted gateway) = codes "shelf fault " ++ decimal (suc gateway)
notice_words (Stopped gateway) = codes "stopped " ++ decimal (suc gateway)

abbrev pub notice_line : Notice → List ℕ
notice_line notice = notice_words notice ++ 10 ∷ []

abbrev pub notice_lines : List Notice → List ℕ
notice_lines notices = flat_map notice_line notices
