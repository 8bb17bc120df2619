-- What a tick of a node sends, by what the node knows (3GPP TS 32.295, clause 5.2; in full this project's procedure).
use Rattle.std.specs.Prelude.{ℕ, suc, ◌==◌, Bool, true, false, if◌then◌else◌, List, [], ◌∷◌, ◌++◌, Option, Some, None}
use Rattle.std.specs.List.{find, flat_map, list_any}
use Rattle.path_mgmt.specs.NodePath.{PathsOfNode, is_alive}
use Rattle.node_core.specs.declared.copy.Command.{Command}
use Rattle.node_core.specs.declared.copy.Order.{Order}
use Rattle.node_core.specs.declared.copy.Order.TheVariants.{Release, Cancel}
use Rattle.node_core.specs.declared.copy.PacketCopy.{PacketCopy}
use Rattle.node_core.specs.declared.copy.Verdict.{Verdict}
use Rattle.node_core.specs.declared.copy.Verdict.TheVariants.{Unknown, Filed, Sealed, Held}
use Rattle.node_core.specs.declared.peer.Peer.{Peer}
use Rattle.node_core.specs.declared.sending.Sending.{Sending}
use Rattle.node_core.specs.declared.sending.Sending.TheVariants as send
use Rattle.node_core.specs.Copies.{is_answered, is_held}
use Rattle.node_core.specs.Packets.{PacketState, chosen, is_done}
use Rattle.node_core.specs.Peers.{all_drawn, next_number}

-- ---- one message

-- the next copy of a packet, plain or a possible duplicate, to a gateway that is alive
abbrev pub copy_to : ℕ → Bool → List Peer → ℕ → Bool → List Sending
copy_to favourite false peers packet is_plain = []
copy_to favourite true peers packet is_plain =
    send.Data packet favourite (next_number peers favourite) is_plain true ∷ []

-- a copy again
abbrev pub again : ℕ → PacketCopy → Sending
again packet copy = send.Data packet copy.gateway copy.number copy.is_plain false

-- the empty packet with a copy's number
abbrev pub test_of : ℕ → PacketCopy → Sending
test_of packet copy = send.Test packet copy.gateway copy.number

-- a release or a cancel of a copy: with the number that was drawn for it before, or the next one of the gateway
abbrev pub command_by : Option Command → List Peer → ℕ → Order → PacketCopy → Sending
command_by None peers packet order copy =
    send.Command packet copy.gateway copy.number (next_number peers copy.gateway) order true
command_by (Some command) peers packet order copy =
    send.Command packet copy.gateway copy.number command.number order false

-- the same, unless it is answered
abbrev pub command_unless : Bool → List Peer → ℕ → Order → PacketCopy → List Sending
command_unless true peers packet order copy = []
command_unless false peers packet order copy = command_by copy.command peers packet order copy ∷ []

abbrev pub command_of : List Peer → ℕ → Order → PacketCopy → List Sending
command_of peers packet order copy = command_unless (is_answered copy) peers packet order copy

-- ---- one packet

-- a duplicate is put out of the way: a test where nothing is known of it, a cancel where it is held
abbrev pub settling_by : Verdict → List Peer → ℕ → PacketCopy → List Sending
settling_by Unknown peers packet copy = test_of packet copy ∷ []
settling_by Filed peers packet copy = []
settling_by Sealed peers packet copy = []
settling_by Held peers packet copy = command_of peers packet Cancel copy

abbrev pub settling : List Peer → ℕ → PacketCopy → List Sending
settling peers packet copy = settling_by copy.verdict peers packet copy

-- the same but for the duplicate that was chosen, which has its gateway to itself
abbrev pub settling_beside : PacketCopy → List Peer → ℕ → PacketCopy → List Sending
settling_beside choice peers packet copy = if copy.gateway == choice.gateway then [] else settling peers packet copy

-- nothing is known of the plain copy: a test of it once a duplicate is held; else the copy at the favourite again, or
-- one more where the favourite is alive
abbrev pub repeating : Option PacketCopy → ℕ → Bool → List Peer → ℕ → List Sending
repeating (Some copy) favourite up peers packet = again packet copy ∷ []
repeating None favourite up peers packet = copy_to favourite up peers packet false

abbrev pub asking : ℕ → Bool → List Peer → ℕ → PacketCopy → List PacketCopy → List Sending
asking favourite up peers packet plain duplicates =
    if list_any (λ copy. is_held copy.verdict) duplicates then test_of packet plain ∷ []
    else repeating (find (λ copy. copy.gateway == favourite) (plain ∷ duplicates)) favourite up peers packet

-- the plain copy is sealed: the release of the chosen duplicate, and the others are put out of the way
abbrev pub releasing : Option PacketCopy → List Peer → ℕ → List PacketCopy → List Sending
releasing None peers packet duplicates = flat_map (settling peers packet) duplicates
releasing (Some choice) peers packet duplicates =
    command_of peers packet Release choice ++ flat_map (settling_beside choice peers packet) duplicates

-- by what is known of the plain copy
abbrev pub due_by_verdict : Verdict → ℕ → Bool → List Peer → ℕ → PacketCopy → List PacketCopy → List Sending
due_by_verdict Unknown favourite up peers packet plain duplicates = asking favourite up peers packet plain duplicates
due_by_verdict Filed favourite up peers packet plain duplicates = flat_map (settling peers packet) duplicates
due_by_verdict Sealed favourite up peers packet plain duplicates = releasing (chosen duplicates) peers packet duplicates
due_by_verdict Held favourite up peers packet plain duplicates = flat_map (settling peers packet) duplicates

abbrev pub due_by_copies : ℕ → Bool → List Peer → ℕ → List PacketCopy → List Sending
due_by_copies favourite up peers packet [] = copy_to favourite up peers packet true
due_by_copies favourite up peers packet (plain ∷ duplicates) =
    due_by_verdict plain.verdict favourite up peers packet plain duplicates

-- what is due for a packet: nothing where it is done
abbrev pub due_for : ℕ → Bool → List Peer → PacketState → List Sending
due_for favourite up peers packet =
    if is_done packet.copies then [] else due_by_copies favourite up peers packet.number packet.copies

-- ---- all gateways and packets

-- a Node Alive Request to each gateway that isn't alive, from the one at this place on
abbrev pub probe_of : Bool → ℕ → Peer → List Sending
probe_of true gateway peer = []
probe_of false gateway peer = send.Probe gateway peer.path ∷ []

abbrev pub probes_from : ℕ → PathsOfNode → List Peer → List Sending
probes_from gateway paths [] = []
probes_from gateway paths (peer ∷ peers) =
    probe_of (is_alive paths gateway) gateway peer ++ probes_from (suc gateway) paths peers

abbrev pub probes : PathsOfNode → List Peer → List Sending
probes paths peers = probes_from 0 paths peers

-- what is due for the packets, in order of submission: each draws its numbers behind those of the packets before it
abbrev pub due_for_all : ℕ → Bool → List Peer → List PacketState → List Sending
due_for_all favourite up peers [] = []
due_for_all favourite up peers (packet ∷ packets) =
    due_for favourite up peers packet
    ++ due_for_all favourite up (all_drawn (due_for favourite up peers packet) peers) packets
