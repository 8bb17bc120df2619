-- What a node that ran keeps of its packets.
use Rattle.std.specs.Prelude.{◌≡◌, ℕ, ◌≤◌, map}
use Rattle.std.specs.List.{range_with_len}
use Rattle.node_core.specs.Packets.{PacketState}
use Rattle.node_core.specs.Value.{NodeValue}

-- Each packet that was submitted, under its number, of so many at most. It was never halted, so that none was forgotten.
pub record KeepsPackets (packets : ℕ) (node : NodeValue) : Type 0 where
  pub numbers : map (λ (packet : PacketState). packet.number) node.packets ≡ range_with_len 1 node.submissions
  pub within : node.submissions ≤ packets
  pub anew : node.before ≡ record { resolved = 0; done = 0 }
