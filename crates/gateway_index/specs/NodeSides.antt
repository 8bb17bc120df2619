-- What contracts see of the nodes that an index keeps.
use Rattle.std.specs.Prelude.{◌≡◌, ℕ, ◌<◌, Bool, true, false, [], length, None}
use Rattle.gw_base.specs.declared.address.NodeId.{NodeId}
use Rattle.gw_base.specs.Known.{is_known}
use Rattle.seq_window.specs.Seen.{nothing_seen}
use Rattle.gateway_index.specs.Limits.{most_nodes}
use Rattle.gateway_index.specs.Nodes.{known_at, opening_at, place_in}
use Rattle.gateway_index.specs.Sides.{NodeSide}
use Rattle.gateway_index.specs.WindowPairs.{seen_at}
use Rattle.gateway_index.specs.declared.nodes.NodeTable.{NodeTable}

-- what is kept of nodes on the firm side, or else on the live side
unfoldable pub nodes_in : Bool → NodeTable → NodeSide
nodes_in firm table = record {
  known = known_at firm table.firm table.slots.items;
  opening = λ node. opening_at firm table.slots.items node;
  window = λ node. seen_at firm table.windows.pairs.items (place_in table.slots.items node);
}

-- The live side took a step, and the firm side stays.
pub record IsNodesStep (step : NodeSide → NodeSide) (old new : NodeTable) : Type 0 where
  pub live : nodes_in false new ≡ step (nodes_in false old)
  pub firm : nodes_in true new ≡ nodes_in true old

-- a node is known, or may become so
abbrev pub MayBeKnown : NodeId → NodeSide → Type 0
MayBeKnown node side = is_known side.known node ≡ false → length side.known < most_nodes

-- No node is known, and nothing is kept of any.
pub record AreNew (side : NodeSide) : Type 0 where
  pub known : side.known ≡ []
  pub openings : (node : ℕ) → side.opening node ≡ None
  pub windows : (node : ℕ) → side.window node ≡ nothing_seen
