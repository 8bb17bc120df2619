-- What a node is by its log, and what one more entry makes of it.
use Rattle.std.specs.Prelude.{◌≡◌, ℕ, suc, min, ◌+◌, ◌%◌, ◌==◌, Bool, true, false, IsTrue, if◌then◌else◌, List, [], ◌∷◌, ◌++◌, map}
use Rattle.gtpp_message.specs.Packet.{PacketForm}
use Rattle.path_mgmt.specs.NodePath.{PathsOfNode, node_anew}
use Rattle.node_core.specs.declared.counts.Tally.{Tally}
use Rattle.node_core.specs.declared.peer.Peer.{Peer}
use Rattle.node_core.specs.Log.{LogEntry, Began, Halted, Submitted, Appointed, Ticked, Heard, NodeSetup, favourite, forms_of, has_entries, packets_hearing, packets_of, paths_hearing, paths_of, peers_of, quiet_ticks, runs, submitted, tally_before, tally_with}
use Rattle.node_core.specs.Packets.{PacketState, packet_after_all, while_open}
use Rattle.node_core.specs.Peers.{all_drawn, peer_anew}

-- the ticks without a message from the favourite after which it may move
abbrev pub most_quiet : ℕ
most_quiet = 3

-- A node: its address; whether it runs; its gateways with the numbers that are next; which of them are alive, and the
-- restart counter; the favourite, and how many ticks it has been quiet, at most 3; how many packets were submitted
-- over all starts, and how many of earlier starts became resolved and done; the packets since the start, and what
-- each sends.
pub record NodeValue : Type 0 where
  pub address : ℕ
  pub is_running : Bool
  pub gateways : List Peer
  pub paths : PathsOfNode
  pub favourite_place : ℕ
  pub quiet : ℕ
  pub submissions : ℕ
  pub before : Tally
  pub packets : List PacketState
  pub forms : List PacketForm

-- the node that a log tells of
abbrev pub node_of : NodeSetup → List LogEntry → NodeValue
node_of setup log = record {
  address = setup.address;
  is_running = runs log;
  gateways = peers_of setup.gateways log;
  paths = paths_of setup.counter log;
  favourite_place = favourite log;
  quiet = min most_quiet (quiet_ticks log);
  submissions = submitted log;
  before = tally_before log;
  packets = packets_of log;
  forms = forms_of log;
}

-- the node stands for a log
abbrev pub IsNode : NodeSetup → List LogEntry → NodeValue → Type 0
IsNode setup log node = node ≡ node_of setup log

-- ---- one more entry

-- the gateways as at a start
abbrev pub peers_anew : List Peer → List Peer
peers_anew peers = map (λ (peer : Peer). peer_anew peer.address) peers

-- the node without what a halt forgets
abbrev pub forgotten : ℕ → Bool → NodeValue → NodeValue
forgotten counter is_running node = record {
  address = node.address;
  is_running = is_running;
  gateways = peers_anew node.gateways;
  paths = node_anew counter;
  favourite_place = 0;
  quiet = 0;
  submissions = node.submissions;
  before = tally_with node.packets node.before;
  packets = [];
  forms = [];
}

-- the node after an entry that follows another
abbrev pub befell : LogEntry → NodeValue → NodeValue
befell Began node = forgotten ((node.paths.counter + 1) % 256) true node
befell Halted node = forgotten node.paths.counter false node
befell (Submitted form) node = record node {
  submissions = suc node.submissions;
  packets = node.packets ++ record { number = suc node.submissions; copies = [] } ∷ [];
  forms = node.forms ++ form ∷ [];
}
befell (Appointed gateway) node = record node { favourite_place = gateway; quiet = 0 }
befell (Ticked sendings) node = record node {
  gateways = all_drawn sendings node.gateways;
  quiet = min most_quiet (suc node.quiet);
  packets = map (while_open (packet_after_all sendings)) node.packets;
}
befell (Heard port gateway saying) node = record node {
  paths = paths_hearing gateway saying node.paths;
  quiet = (if gateway == node.favourite_place then 0 else node.quiet);
  packets = packets_hearing port gateway saying node.packets;
}

-- the node, and the log, after some entries in their order
abbrev pub befallen : List LogEntry → NodeValue → NodeValue
befallen [] node = node
befallen (entry ∷ entries) node = befallen entries (befell entry node)

abbrev pub logged : List LogEntry → List LogEntry → List LogEntry
logged [] log = log
logged (entry ∷ entries) log = logged entries (entry ∷ log)

-- an entry can follow a log: a start follows another entry
abbrev pub CanFollow : LogEntry → List LogEntry → Type 0
CanFollow Began log = IsTrue (has_entries log)
CanFollow Halted log = Unit {0}
CanFollow (Submitted form) log = Unit {0}
CanFollow (Appointed gateway) log = Unit {0}
CanFollow (Ticked sendings) log = Unit {0}
CanFollow (Heard port gateway saying) log = Unit {0}

-- each of some entries can follow those before it
abbrev pub CanFollowAll : List LogEntry → List LogEntry → Type 0
CanFollowAll [] log = Unit {0}
CanFollowAll (entry ∷ entries) log = CanFollow entry log × CanFollowAll entries (entry ∷ log)
