-- Redirection Requests, one node after the other.
use Rattle.std.specs.Prelude.{ℕ, List, [], ◌∷◌, Option, option_map}
use Rattle.std.specs.Option.{option_map_or}
use Rattle.byteorder.specs.Endian.{big_bytes}
use Rattle.gateway_answer.specs.Told.{path_of}
use Rattle.gateway_answer.specs.Value.{history_of}
use Rattle.gtpp_message.specs.Message.{RedirectionRequest}
use Rattle.gtpp_message.specs.Writing.{written}
use Rattle.gw_base.specs.declared.address.NodeId.{NodeId}
use Rattle.once_core.specs.Addresses.{gateway_address}
use Rattle.once_core.specs.Answers.{redirected, redirecting}
use Rattle.once_core.specs.Gateway.{Gateway, Moved}
use Rattle.once_core.specs.Standing.{gateway_kept}
use Rattle.once_core.specs.declared.message.Message.{Message}

-- the octets of a request, under a number
abbrev pub redirection : ℕ → ℕ → Option ℕ → List ℕ
redirection number cause to =
    written number (RedirectionRequest cause (option_map (λ other. big_bytes 4 (gateway_address other).ip) to))

-- the request to one node, where it has a path
abbrev pub redirecting_one : ℕ → ℕ → Option ℕ → Gateway → NodeId → List Message
redirecting_one gateway cause to g node =
    option_map_or (λ path. redirecting gateway cause to g path ∷ []) (path_of (history_of g.book) node) []

-- what is kept of a gateway, once it redirected
abbrev pub redirected_kept : ℕ → ℕ → Option ℕ → Gateway → Moved
redirected_kept gateway cause to g =
    let moved = redirected gateway cause to g in record { gateway = gateway_kept moved.gateway; sends = moved.sends }
