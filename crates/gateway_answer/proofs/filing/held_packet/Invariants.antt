use Rattle.std.proofs.Common.{◌≡◌, drop}
use Rattle.gtpp_message.specs.Values.{lent}
use Rattle.gateway_answer.specs.Filed.{held_packet}
use Rattle.gateway_answer.proofs.FilingLemmas.{packet_from}
use Rattle.gateway_answer.proofs.filing.held_packet.Given as goal

-- the packet so far goes on to that of the whole history
abbrev pub invariant-loop-entry : goal.invariant-loop-entry
invariant-loop-entry l = packet_from l.node.0 l.number (lent l.packet) (drop l.entry-index l.history) ≡ held_packet l.node.0 l.number l.history
