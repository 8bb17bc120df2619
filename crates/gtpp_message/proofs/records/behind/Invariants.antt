use Rattle.std.proofs.Common.{◌≡◌}
use Rattle.gtpp_message.specs.Packet.{behind}
use Rattle.gtpp_message.proofs.records.behind.Given as goal

-- what follows all follows those that are left
abbrev pub invariant-loop-left : goal.invariant-loop-left
invariant-loop-left l = behind l.left l.rest ≡ behind l.count l.octets

abbrev pub decreases-loop-left : goal.decreases-loop-left
decreases-loop-left l = l.left
