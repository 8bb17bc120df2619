use Rattle.std.proofs.Common.{◌≡◌, drop}
use Rattle.node_core.specs.Submitting.{numbers_out}
use Rattle.node_core.proofs.submit.numbers_out.Given as goal

abbrev pub invariant-loop-i : goal.invariant-loop-i
invariant-loop-i l = numbers_out l.i (drop l.i l.gateways) l.packets.packets ≡ numbers_out 0 l.gateways l.packets.packets
