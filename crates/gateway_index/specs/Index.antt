-- What contracts see of an index.
use Rattle.std.specs.Prelude.{◌≡◌, ◌+◌, ◌<◌, ◌^◌, ◌%◌, Bool, true, false, if◌then◌else◌, List, length}
use Rattle.gw_base.specs.declared.address.NodeId.{NodeId}
use Rattle.gw_base.specs.declared.history.HistoryAct.{HistoryAct}
use Rattle.gw_base.specs.declared.history.HistoryEntry.{HistoryEntry}
use Rattle.gw_base.specs.Known.{is_known}
use Rattle.gw_base.specs.Observed.{Observed}
use Rattle.gateway_index.specs.FitActs.{any_packet, fits_with}
use Rattle.gateway_index.specs.HeldPairs.{held_in}
use Rattle.gateway_index.specs.NodeSides.{nodes_in}
use Rattle.gateway_index.specs.Sides.{Side, state_in}
use Rattle.gateway_index.specs.Tells.{Tells}
use Rattle.gateway_index.specs.declared.index.Index.{Index}

-- what an index keeps on its firm side, or else on its live side
unfoldable pub side_of : Bool → Index → Side
side_of firm index = record {
  nodes = nodes_in firm index.nodes;
  held = held_in firm index.held;
  totals = if firm then index.firm else index.live;
}

-- The firm side of an index, or else its live side, says of everything what a history says.
unfoldable pub Follows : Bool → Index → List HistoryEntry → Type 0
Follows firm index h = Tells (side_of firm index) h

-- what one side tells of all that an answer asks
abbrev pub observed_in : Side → NodeId → Observed
observed_in side node = record {
  own = side.totals.starts % 256;
  opening = side.nodes.opening node.0;
  top = (side.nodes.window node.0).top;
  state = λ number. state_in side node.0 number;
  is_known = is_known side.nodes.known node;
  known = length side.nodes.known;
  held = side.held.count;
  moment = side.totals.moment;
}

-- all that an answer asks, as the firm side of an index tells it, or else its live side
unfoldable pub observed_by : Bool → Index → NodeId → Observed
observed_by firm index node = observed_in (side_of firm index) node

-- An act may come next: it is fit by what the live side tells, whatever its packet.
abbrev pub MayCome : HistoryAct → Index → Type 0
MayCome act index = fits_with any_packet (observed_by false index) act ≡ true

-- a history to which more entries may come, by their number
abbrev pub MayGrow : List HistoryEntry → Type 0
MayGrow h = length h + 2 < 2 ^ 64

-- The live side took a step, and the firm side stays.
pub record Stepped (step : Side → Side) (old new : Index) : Type 0 where
  pub live : side_of false new ≡ step (side_of false old)
  pub firm : side_of true new ≡ side_of true old
