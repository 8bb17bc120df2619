-- No two who take part in a loop have one address.
use Rattle.std.proofs.Common.{◌≡◌, ◌≢◌, ℕ, ◌+◌, length, ap, arith}
use Rattle.loop_run.proofs.Names.{Addr, First, first_gateway_ip, first_node_ip, gateway_at, gateways_of, length-map-range_with_len, node_at, Port, port_number, Second}

pub gateways_apart : (p q : ℕ) → p ≢ q → gateway_at p ≢ gateway_at q
gateways_apart p q apart e =
    let ips : first_gateway_ip + p ≡ first_gateway_ip + q = ap (λ (a : Addr). a.ip) e in
    apart (omega (arith, ips))

pub nodes_apart : (p q : ℕ) (a b : Port) → p ≢ q → node_at p a ≢ node_at q b
nodes_apart p q a b apart e =
    let ips : first_node_ip + p ≡ first_node_ip + q = ap (λ (a : Addr). a.ip) e in
    apart (omega (arith, ips))

pub ports_apart : (p q : ℕ) → node_at p First ≢ node_at q Second
ports_apart p q e = let ports : 40001 ≡ 40002 = ap (λ (a : Addr). a.port) e in absurd (omega (arith, ports))

not_served : (port : Port) → 3386 ≢ port_number port
not_served First e = absurd (omega arith)
not_served Second e = absurd (omega arith)

pub gateway_no_node : (p q : ℕ) (port : Port) → gateway_at p ≢ node_at q port
gateway_no_node p q port e = not_served port (ap (λ (a : Addr). a.port) e)

pub gateways_count : (n : ℕ) → length (gateways_of n) ≡ n
gateways_count n = length-map-range_with_len gateway_at 0 n
