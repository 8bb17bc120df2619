use Rattle.std.proofs.Common.{◌≤◌, ◌-◌, length, take}
use Rattle.node_core.specs.Sound.{AllDone}
use Rattle.node_core.proofs.packets.first_open.Given as goal

abbrev pub invariant-loop-first : goal.invariant-loop-first
invariant-loop-first l = (l.first ≤ length l.packets) × AllDone (take l.first l.packets)

abbrev pub decreases-loop-first : goal.decreases-loop-first
decreases-loop-first l = length l.packets - l.first
