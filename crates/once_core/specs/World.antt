-- A world of gateways and nodes, and its nodes.
use Rattle.std.specs.Prelude.{ℕ, true, false, not, ◌&&◌, ◌||◌, Bool, if◌then◌else◌, List, [], ◌∷◌, map, Option, Some, None, option_and_then, slice_get}
use Rattle.std.specs.Option.{option_map_or}
use Rattle.gtpp_message.specs.Packet.{PacketForm, packet_of}
use Rattle.gtpp_message.specs.PacketWriting.{with_record}
use Rattle.node_core.specs.Drafts.{addition_fault, is_without_records, packet_anew}
use Rattle.node_core.specs.declared.fault.DraftFault.{DraftFault}
use Rattle.node_core.specs.declared.message.Heeded.{Heeded}
use Rattle.node_core.specs.declared.message.Outgoing.{Outgoing}
use Rattle.node_core.specs.Hearing.{heeds}
use Rattle.node_core.specs.Log.{LogEntry}
use Rattle.node_core.specs.Octets.{outgoing}
use Rattle.node_core.specs.Reached.{NodeCall, Submit, Tick, Hear, call_entries}
use Rattle.node_core.specs.Ticks.{due}
use Rattle.node_core.specs.Value.{NodeValue, logged, node_of}
use Rattle.once_core.specs.Addresses.{gateway_address, gateway_at, node_setup}
use Rattle.once_core.specs.Expired.{is_expired_at_node, starts_in}
use Rattle.once_core.specs.Gateway.{Gateway}
use Rattle.once_core.specs.Messages.{answering}
use Rattle.once_core.specs.declared.message.Message.{Message}

-- A world: its gateways; the log of each of its nodes; the present moment; all messages ever sent, in order of sending.
pub record World : Type 0 where
  pub gateways : List Gateway
  pub nodes : List (List LogEntry)
  pub now : ℕ
  pub messages : List Message

-- the log of the node in this place
abbrev pub log_at : World → ℕ → List LogEntry
log_at w place = option_map_or (λ log. log) (slice_get w.nodes place) []

-- A node after it was called, and the messages that it sent.
pub record Called : Type 0 where
  pub log : List LogEntry
  pub sends : List Message

-- the node in this place by its log, where there are so many gateways
abbrev pub node_value : ℕ → ℕ → List LogEntry → NodeValue
node_value gateways node log = node_of (node_setup gateways node) log

abbrev pub log_after : ℕ → ℕ → NodeCall → List LogEntry → List LogEntry
log_after gateways node call log = logged (call_entries (node_value gateways node log) call) log

-- a call that sends nothing
abbrev pub called : ℕ → ℕ → NodeCall → List LogEntry → Called
called gateways node call log = record { log = log_after gateways node call log; sends = [] }

-- A packet that is submitted by the octets of its value.

abbrev pub is_fault_free : Option DraftFault → Bool
is_fault_free None = true
is_fault_free (Some fault) = false

-- a draft takes these records, one after the other, behind those that it has
abbrev pub takes_all : PacketForm → List (List ℕ) → Bool
takes_all form [] = true
takes_all form (r ∷ records) = if is_fault_free (addition_fault form r) then takes_all (with_record form r) records else false

-- the packet is one that a draft can be, with at least one record
abbrev pub is_draft : PacketForm → Bool
is_draft form = not (is_without_records form) && takes_all (packet_anew form.format form.version) form.records

abbrev pub draft_of : List ℕ → Option PacketForm
draft_of octets = option_and_then (λ form. if is_draft form then Some form else None) (packet_of octets)

-- what is no draft, or what the node refuses, does nothing
abbrev pub submitting_form : ℕ → ℕ → Option PacketForm → List LogEntry → Called
submitting_form gateways node None log = record { log = log; sends = [] }
submitting_form gateways node (Some form) log = called gateways node (Submit form) log

abbrev pub submitting : ℕ → ℕ → List ℕ → List LogEntry → Called
submitting gateways node octets log = submitting_form gateways node (draft_of octets) log

-- A tick.

-- the message of a datagram that a node sends
abbrev pub message_of : ℕ → List LogEntry → Outgoing → Message
message_of node log out = record {
  to_gateway = true;
  gateway = gateway_at out.to;
  node = node;
  port = out.port;
  start = starts_in log;
  number = out.number;
  named = out.named;
  octets = out.octets;
}

abbrev pub ticking : ℕ → ℕ → List LogEntry → Called
ticking gateways node log =
    let value = node_value gateways node log in
    record { log = log_after gateways node Tick log; sends = map (λ s. message_of node log (outgoing value s)) (due value) }

-- A message at a node: one that is halted hears nothing, and an expired one isn't delivered.

abbrev pub answers_of : Message → Heeded → List Message
answers_of m heeded = option_map_or (λ octets. answering m octets ∷ []) heeded.reply []

abbrev pub hearing : ℕ → ℕ → Message → List LogEntry → Called
hearing gateways node m log =
    let value = node_value gateways node log in
    record {
      log = log_after gateways node (Hear m.port (gateway_address m.gateway) m.octets) log;
      sends = answers_of m (heeds value m.port (gateway_address m.gateway) m.octets);
    }

abbrev pub delivered_to_node : ℕ → ℕ → Message → List LogEntry → Called
delivered_to_node gateways node m log =
    let value = node_value gateways node log in
    if not value.is_running || is_expired_at_node log value m then record { log = log; sends = [] }
    else hearing gateways node m log
