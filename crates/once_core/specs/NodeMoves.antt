-- How a node that is kept moves.
use Rattle.std.specs.Prelude.{◌≡◌, ℕ, ◌%◌, ◌||◌, not, Bool, true, if◌then◌else◌, List, [], ◌∷◌, ◌++◌, map, Option, Some, None}
use Rattle.gtpp_message.specs.Packet.{PacketForm, PacketValue, Empty, Full}
use Rattle.gtpp_message.specs.PacketWriting.{with_record}
use Rattle.node_core.specs.Drafts.{addition_fault, is_without_records, packet_anew}
use Rattle.node_core.specs.Hearing.{heard_entries, heeds}
use Rattle.node_core.specs.Log.{LogEntry, Began}
use Rattle.node_core.specs.Octets.{outgoing}
use Rattle.node_core.specs.Reached.{submit_entries}
use Rattle.node_core.specs.Submitting.{refusal}
use Rattle.node_core.specs.Ticks.{due}
use Rattle.node_core.specs.Value.{NodeValue, befallen}
use Rattle.node_core.specs.declared.message.Outgoing.{Outgoing}
use Rattle.once_core.specs.Addresses.{gateway_address, gateway_at}
use Rattle.once_core.specs.Standing.{NodeKept, is_expired_kept, node_kept}
use Rattle.once_core.specs.World.{answers_of, is_fault_free}
use Rattle.once_core.specs.declared.message.Message.{Message}

-- a node that has just begun
abbrev pub first_kept : ℕ → ℕ → NodeKept
first_kept gateways place = node_kept gateways place (Began ∷ [])

-- these entries befell it
abbrev pub with_entries : List LogEntry → NodeKept → NodeKept
with_entries entries n = record n { node = befallen entries n.node }

-- A packet that is submitted.

abbrev pub submitted_entries : NodeValue → Option PacketForm → List LogEntry
submitted_entries node None = []
submitted_entries node (Some form) = submit_entries node (refusal node form) form

-- a draft with these records behind its own, where it takes them and has one then
abbrev pub with_all : PacketForm → List (List ℕ) → Option PacketForm
with_all form [] = if is_without_records form then None else Some form
with_all form (r ∷ records) = if is_fault_free (addition_fault form r) then with_all (with_record form r) records else None

-- the draft that is this packet
abbrev pub draft_of_packet : PacketValue → Option PacketForm
draft_of_packet Empty = None
draft_of_packet (Full form value) = with_all (packet_anew form.format form.version) form.records

-- a draft takes a record, which it has then, or it doesn't
pub record HasTaken (draft : PacketForm) (r : List ℕ) (new : PacketForm) (takes : Bool) : Type 0 where
  pub is : takes ≡ is_fault_free (addition_fault draft r)
  pub added : takes ≡ true → new ≡ with_record draft r

-- A tick.

abbrev pub message_kept : ℕ → ℕ → Outgoing → Message
message_kept place starts out = record {
  to_gateway = true;
  gateway = gateway_at out.to % 256;
  node = place;
  port = out.port;
  start = starts;
  number = out.number;
  named = out.named;
  octets = out.octets;
}

abbrev pub due_messages : ℕ → NodeKept → List Message
due_messages place n = map (message_kept place n.starts) (map (outgoing n.node) (due n.node))

-- A message.

abbrev pub is_deaf : NodeKept → Message → Bool
is_deaf n m = not n.node.is_running || is_expired_kept n.starts n.node m

abbrev pub heard_by : NodeKept → Message → NodeKept
heard_by n m =
    if is_deaf n m then n else with_entries (heard_entries n.node m.port (gateway_address m.gateway) m.octets) n

abbrev pub answered_by : NodeKept → Message → List Message
answered_by n m = if is_deaf n m then [] else answers_of m (heeds n.node m.port (gateway_address m.gateway) m.octets)

-- it heard the message, and what it answered joined these messages
pub record HasHeard (n : NodeKept) (m : Message) (new : NodeKept) (before after : List Message) : Type 0 where
  pub node : new ≡ heard_by n m
  pub sends : after ≡ before ++ answered_by n m
