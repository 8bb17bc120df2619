-- What a gateway tells of its history beside its answers: paths and keys.
use Rattle.std.specs.Prelude.{ℕ, List, Option}
use Rattle.std.specs.List.{filter_map}
use Rattle.std.specs.Option.{option_map}
use Rattle.gw_base.specs.History.{present_state, top_of}
use Rattle.gw_base.specs.Known.{known_nodes}
use Rattle.gw_base.specs.Nearest.{nearest}
use Rattle.gw_base.specs.Starts.{opening_of, start_of}
use Rattle.gw_base.specs.declared.address.Addr.{Addr}
use Rattle.gw_base.specs.declared.address.NodeId.{NodeId}
use Rattle.gw_base.specs.declared.history.HistoryEntry.{HistoryEntry}
use Rattle.gateway_answer.specs.declared.key.Key.{Key}

-- where a node sends from, if a Path opened its present epoch
abbrev pub path_of : List HistoryEntry → NodeId → Option Addr
path_of h node = option_map (λ opening. record { ip = node.0; port = opening.port }) (opening_of node.0 h)

-- those of all nodes, in the order in which entries first named these
abbrev pub paths_of : List HistoryEntry → List Addr
paths_of h = filter_map (path_of h) (known_nodes h)

-- what the number on the wire means in a node's present epoch: the epoch's start, the number and its state
abbrev pub key_of : List HistoryEntry → NodeId → ℕ → Key
key_of h node wire = record {
  start = start_of node.0 h;
  number = nearest (top_of node.0 h) wire;
  state = present_state node.0 (nearest (top_of node.0 h) wire) h;
}
