use Rattle.std.proofs.Common.{◌≡◌, drop}
use Rattle.node_core.specs.Submitting.{oldest_number}
use Rattle.node_core.proofs.packets.oldest_at.Given as goal

abbrev pub invariant-loop-packet : goal.invariant-loop-packet
invariant-loop-packet l =
    oldest_number l.gateway l.oldest (drop l.packet-index l.packets) ≡ oldest_number l.gateway l.next l.packets
