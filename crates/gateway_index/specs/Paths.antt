-- What one side of an index tells of the nodes' paths.
use Rattle.std.specs.Prelude.{List, Option}
use Rattle.std.specs.List.{filter_map}
use Rattle.std.specs.Option.{option_map}
use Rattle.gw_base.specs.declared.address.Addr.{Addr}
use Rattle.gw_base.specs.declared.address.NodeId.{NodeId}
use Rattle.gateway_index.specs.Sides.{Side}

-- where a node sends from, if a Path opened its present epoch
abbrev pub path_in : Side → NodeId → Option Addr
path_in side node = option_map (λ opening. record { ip = node.0; port = opening.port }) (side.nodes.opening node.0)

-- those of all nodes, in the order in which they became known
abbrev pub paths_in : Side → List Addr
paths_in side = filter_map (path_in side) side.nodes.known
