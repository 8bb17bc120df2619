-- Where gateways and nodes of a loop are: gateway g, from 0, at 127.0.0.(11 + g):3386, and node n at 127.0.0.(101 + n),
-- with its two ports.
use Rattle.std.specs.Prelude.{ℕ, ◌+◌, ◌≤◌, List, map}
use Rattle.std.specs.List.{range_with_len}
use Rattle.gw_base.specs.declared.address.Addr.{Addr}
use Rattle.node_core.specs.Log.{NodeSetup}
use Rattle.node_core.specs.declared.port.Port.{Port}
use Rattle.node_core.specs.declared.port.Port.TheVariants.{First, Second}
use Rattle.loop_run.specs.declared.setup.LoopSetup.{LoopSetup}

abbrev pub first_gateway_ip : ℕ
first_gateway_ip = 0x7F00_000B

-- the port that is registered for GTP'
abbrev pub gateway_port : ℕ
gateway_port = 3386

abbrev pub gateway_at : ℕ → Addr
gateway_at place = record { ip = first_gateway_ip + place; port = gateway_port }

abbrev pub gateways_of : ℕ → List Addr
gateways_of count = map gateway_at (range_with_len 0 count)

abbrev pub first_node_ip : ℕ
first_node_ip = 0x7F00_0065

abbrev pub node_ip : ℕ → ℕ
node_ip place = first_node_ip + place

abbrev pub port_number : Port → ℕ
port_number First = 40001
port_number Second = 40002

abbrev pub node_at : ℕ → Port → Addr
node_at place port = record { ip = node_ip place; port = port_number port }

-- what a node is made with: its restart counter is 1
abbrev pub node_setup : LoopSetup → ℕ → NodeSetup
node_setup setup place =
    record { address = node_ip place; gateways = gateways_of setup.gateways; counter = 1 }

-- Which numbers a loop has.
pub record IsLoop (setup : LoopSetup) : Type 0 where
  pub some_gateways : 1 ≤ setup.gateways
  pub most_gateways : setup.gateways ≤ 4
  pub some_nodes : 1 ≤ setup.nodes
  pub most_nodes : setup.nodes ≤ 8
  pub some_packets : 1 ≤ setup.packets
  pub most_packets : setup.packets ≤ 1000
  pub some_turns : 1 ≤ setup.turns
  pub most_turns : setup.turns ≤ 10000000
