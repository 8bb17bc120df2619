-- What a gateway asks nodes to do that it has a path to.
use Rattle.std.specs.Prelude.{ℕ, ◌%◌, ◌<◌, false, All, Option, None, option_map, slice_get}
use Rattle.gateway_answer.specs.Told.{paths_of}
use Rattle.gateway_answer.specs.Value.{BookValue, history_of}
use Rattle.gw_base.specs.Starts.{start_of}
use Rattle.gw_base.specs.declared.address.Addr.{Addr}
use Rattle.once_core.specs.Addresses.{node_at, port_at}
use Rattle.once_core.specs.Gateway.{Gateway}
use Rattle.once_core.specs.Redirecting.{redirection}
use Rattle.once_core.specs.declared.message.Message.{Message}

-- the k-th path that it knows, with the start of its node
abbrev pub path_in : BookValue → ℕ → Option (Addr × ℕ)
path_in v k =
    option_map (λ (path : Addr). (path, start_of path.ip (history_of v))) (slice_get (paths_of (history_of v)) k)

-- each path that it knows is that of one of 256 nodes
abbrev pub KnowsNear : Gateway → Type 0
KnowsNear g = All (λ path. node_at path < 256) (paths_of (history_of g.book))

-- the request to send elsewhere that goes to a node with this path and this start, where a node is one octet
abbrev pub asking : ℕ → ℕ → ℕ → Option ℕ → Addr × ℕ → Message
asking place cause number to path = record {
  to_gateway = false;
  gateway = place;
  node = node_at path.0 % 256;
  port = port_at path.0;
  start = path.1;
  number = number;
  named = None;
  octets = redirection number cause to;
}
