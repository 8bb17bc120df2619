-- Where gateways and nodes are: gateway g, from 0, at 10.0.0.(g + 1):3386, and node n at 10.0.1.(n + 1), with its two
-- ports.
use Rattle.std.specs.Prelude.{ℕ, suc, zero, ◌+◌, ◌-◌, ◌==◌, if◌then◌else◌, List, [], ◌∷◌}
use Rattle.gw_base.specs.declared.address.Addr.{Addr}
use Rattle.gw_base.specs.declared.address.NodeId.{NodeId}
use Rattle.node_core.specs.Log.{NodeSetup}
use Rattle.node_core.specs.declared.port.Port.{Port}
use Rattle.node_core.specs.declared.port.Port.TheVariants.{First, Second}

abbrev pub first_gateway_ip : ℕ
first_gateway_ip = 0x0A00_0001

abbrev pub gateway_address : ℕ → Addr
gateway_address gateway = record { ip = first_gateway_ip + gateway; port = 3386 }

-- the gateway with this address
abbrev pub gateway_at : Addr → ℕ
gateway_at address = address.ip - first_gateway_ip

-- the addresses of so many gateways, from this one on
abbrev pub addresses_from : ℕ → ℕ → List Addr
addresses_from gateway zero = []
addresses_from gateway (suc count) = gateway_address gateway ∷ addresses_from (suc gateway) count

abbrev pub first_node_ip : ℕ
first_node_ip = 0x0A00_0101

abbrev pub node_ip : ℕ → ℕ
node_ip node = first_node_ip + node

-- the node with this address
abbrev pub node_at : Addr → ℕ
node_at address = address.ip - first_node_ip

abbrev pub second_port : ℕ
second_port = 40002

abbrev pub port_number : Port → ℕ
port_number First = 40001
port_number Second = second_port

-- the port of a node with this number
abbrev pub port_at : Addr → Port
port_at address = if address.port == second_port then Second else First

abbrev pub node_address : ℕ → Port → Addr
node_address node port = record { ip = node_ip node; port = port_number port }

abbrev pub node_id : ℕ → NodeId
node_id node = record { 0 = node_ip node }

-- what a node is made with where there are so many gateways
abbrev pub node_setup : ℕ → ℕ → NodeSetup
node_setup gateways node = record { address = node_ip node; gateways = addresses_from 0 gateways; counter = 1 }
