-- What a node's fields mean, and what holds of them (steps of the proof).
use Rattle.std.specs.Prelude.{◌≡◌, ℕ, ◌≤◌, ◌<◌, ◌+◌, ◌-◌, ◌^◌, length}
use Rattle.node_core.specs.declared.node.Node.TheInside.{Inside}
use Rattle.node_core.specs.Peers.{AreNumbers}
use Rattle.node_core.specs.Sound.{AreNumbered}
use Rattle.node_core.specs.Value.{NodeValue}

-- the node that the fields stand for
abbrev pub value_of_node : Inside → NodeValue
value_of_node node = record {
  address = node.address;
  is_running = node.is_running;
  gateways = node.gateways.items;
  paths = node.paths;
  favourite_place = node.favourite;
  quiet = node.quiet;
  submissions = node.submissions;
  before = node.before;
  packets = node.packets.packets;
  forms = node.forms.items;
}

-- a node is sound: it has 1 to 255 gateways, of which one is the favourite; its packets bear the last numbers, and
-- each has what it sends; the counts of earlier starts leave room for those of this one
pub record IsSound (restarts : ℕ) (node : NodeValue) : Type 0 where
  pub some : 1 ≤ length node.gateways
  pub most : length node.gateways ≤ 255
  pub within : node.favourite_place < length node.gateways
  pub quiet : node.quiet ≤ 3
  pub numbers : AreNumbers node.gateways
  pub numbered : AreNumbered (node.submissions - length node.packets) node.packets
  pub packets : length node.packets ≤ node.submissions
  pub forms : length node.forms ≡ length node.packets
  pub submissions : node.submissions ≤ 2 ^ 62
  pub resolved : node.before.resolved + length node.packets ≤ node.submissions
  pub done : node.before.done + length node.packets ≤ node.submissions
  pub counter : restarts ≡ node.paths.counter

abbrev pub IsSoundNode : Inside → Type 0
IsSoundNode node = IsSound node.counter (value_of_node node)
