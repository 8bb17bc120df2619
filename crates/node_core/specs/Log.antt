-- The log of a node: what befell it, the newest first, and what the node is by it. All but the counts, the restart
-- counter and the number of packets begins anew at each start, and a halt forgets it.
use Rattle.std.specs.Prelude.{ℕ, suc, ◌+◌, ◌%◌, ◌==◌, Bool, true, false, if◌then◌else◌, List, [], ◌∷◌, ◌++◌, map, count_by, Option}
use Rattle.gtpp_message.specs.Packet.{PacketForm}
use Rattle.gw_base.specs.declared.address.Addr.{Addr}
use Rattle.path_mgmt.specs.NodePath.{PathsOfNode, node_after, node_anew}
use Rattle.path_mgmt.specs.declared.event.PathEvent.{PathEvent}
use Rattle.node_core.specs.declared.counts.Tally.{Tally}
use Rattle.node_core.specs.declared.peer.Peer.{Peer}
use Rattle.node_core.specs.declared.port.Port.{Port}
use Rattle.node_core.specs.declared.sending.Sending.{Sending}
use Rattle.node_core.specs.Packets.{PacketState, is_done, is_resolved, packet_after_all, packet_hearing, while_open}
use Rattle.node_core.specs.Peers.{all_drawn, peer_anew}

-- What a message says to a node: a message of path management; a Redirection Request, with the address of the node
-- that it recommends, where it recommends one; a Data Record Transfer Response, with the whole request numbers that
-- it speaks for, as they were read when it was heard; any other message that isn't dropped.
pub data Saying : Type 0 where
  Path : (event : PathEvent) → Saying
  Redirects : (to : Option (List ℕ)) → Saying
  Responds : (cause : ℕ) (numbers : List ℕ) → Saying
  Other : Saying

-- What befalls a node: it starts; it is halted; a packet is submitted; a gateway becomes its favourite; a tick sends
-- these messages; it hears this at a port from a gateway. What is dropped isn't heard. Gateways are places in the
-- node's list.
pub data LogEntry : Type 0 where
  Began : LogEntry
  Halted : LogEntry
  Submitted : (form : PacketForm) → LogEntry
  Appointed : (gateway : ℕ) → LogEntry
  Ticked : (sendings : List Sending) → LogEntry
  Heard : (port : Port) (gateway : ℕ) (saying : Saying) → LogEntry

-- what a node is made with: its IPv4 address, its gateways in order, and the restart counter of its first start
pub record NodeSetup : Type 0 where
  pub address : ℕ
  pub gateways : List Addr
  pub counter : ℕ

-- ---- over all starts

-- the node runs
abbrev pub runs : List LogEntry → Bool
runs [] = false
runs (Began ∷ log) = true
runs (Halted ∷ log) = false
runs (_ ∷ log) = runs log

-- the restart counter: it rises by one at each start but the first, and returns to 0 behind 255
abbrev pub restarted : Bool → ℕ → ℕ
restarted false counter = counter
restarted true counter = (counter + 1) % 256

abbrev pub has_entries : List LogEntry → Bool
has_entries [] = false
has_entries (entry ∷ log) = true

abbrev pub counter_of : ℕ → List LogEntry → ℕ
counter_of first [] = first
counter_of first (Began ∷ log) = restarted (has_entries log) (counter_of first log)
counter_of first (_ ∷ log) = counter_of first log

-- how many packets were submitted
abbrev pub submitted : List LogEntry → ℕ
submitted [] = 0
submitted (Submitted form ∷ log) = suc (submitted log)
submitted (_ ∷ log) = submitted log

-- ---- since the start

-- the favourite is the first gateway until another is appointed
abbrev pub favourite : List LogEntry → ℕ
favourite [] = 0
favourite (Began ∷ log) = 0
favourite (Halted ∷ log) = 0
favourite (Appointed gateway ∷ log) = gateway
favourite (_ ∷ log) = favourite log

-- how many ticks were made since the latest of the start, the favourite's appointment and the last message heard from
-- it; the tick at whose start it was appointed is one of them
abbrev pub quiet_ticks : List LogEntry → ℕ
quiet_ticks [] = 0
quiet_ticks (Began ∷ log) = 0
quiet_ticks (Halted ∷ log) = 0
quiet_ticks (Submitted form ∷ log) = quiet_ticks log
quiet_ticks (Appointed gateway ∷ log) = 0
quiet_ticks (Ticked sendings ∷ log) = suc (quiet_ticks log)
quiet_ticks (Heard port gateway saying ∷ log) = if gateway == favourite log then 0 else quiet_ticks log

-- which gateways are alive, and the restart counter
abbrev pub paths_hearing : ℕ → Saying → PathsOfNode → PathsOfNode
paths_hearing gateway (Path event) paths = node_after paths gateway event
paths_hearing gateway _ paths = paths

abbrev pub paths_of : ℕ → List LogEntry → PathsOfNode
paths_of first [] = node_anew first
paths_of first (Began ∷ log) = node_anew (counter_of first (Began ∷ log))
paths_of first (Halted ∷ log) = node_anew (counter_of first log)
paths_of first (Heard port gateway saying ∷ log) = paths_hearing gateway saying (paths_of first log)
paths_of first (_ ∷ log) = paths_of first log

-- the gateways with the numbers that are next
abbrev pub peers_of : List Addr → List LogEntry → List Peer
peers_of gateways [] = map peer_anew gateways
peers_of gateways (Began ∷ log) = map peer_anew gateways
peers_of gateways (Halted ∷ log) = map peer_anew gateways
peers_of gateways (Ticked sendings ∷ log) = all_drawn sendings (peers_of gateways log)
peers_of gateways (_ ∷ log) = peers_of gateways log

-- the packets, in order of submission; one that is done stays as it is
abbrev pub packets_hearing : Port → ℕ → Saying → List PacketState → List PacketState
packets_hearing port gateway (Responds cause numbers) packets =
    map (while_open (packet_hearing port gateway cause numbers)) packets
packets_hearing port gateway _ packets = packets

abbrev pub packets_of : List LogEntry → List PacketState
packets_of [] = []
packets_of (Began ∷ log) = []
packets_of (Halted ∷ log) = []
packets_of (Submitted form ∷ log) = packets_of log ++ record { number = suc (submitted log); copies = [] } ∷ []
packets_of (Appointed gateway ∷ log) = packets_of log
packets_of (Ticked sendings ∷ log) = map (while_open (packet_after_all sendings)) (packets_of log)
packets_of (Heard port gateway saying ∷ log) = packets_hearing port gateway saying (packets_of log)

-- what each of them sends: its format, version and records
abbrev pub forms_of : List LogEntry → List PacketForm
forms_of [] = []
forms_of (Began ∷ log) = []
forms_of (Halted ∷ log) = []
forms_of (Submitted form ∷ log) = forms_of log ++ form ∷ []
forms_of (_ ∷ log) = forms_of log

-- ---- how many packets became resolved, and done

-- among these packets
abbrev pub resolved_among : List PacketState → ℕ
resolved_among packets = count_by (λ packet. is_resolved packet.copies) packets

abbrev pub done_among : List PacketState → ℕ
done_among packets = count_by (λ packet. is_done packet.copies) packets

-- those that were counted, and these
abbrev pub tally_with : List PacketState → Tally → Tally
tally_with packets tally =
    record { resolved = tally.resolved + resolved_among packets; done = tally.done + done_among packets }

-- in the starts before this one
abbrev pub tally_before : List LogEntry → Tally
tally_before [] = record { resolved = 0; done = 0 }
tally_before (Began ∷ log) = tally_with (packets_of log) (tally_before log)
tally_before (Halted ∷ log) = tally_with (packets_of log) (tally_before log)
tally_before (_ ∷ log) = tally_before log
