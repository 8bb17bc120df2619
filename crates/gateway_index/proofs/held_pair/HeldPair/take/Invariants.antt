use Rattle.std.proofs.Common.{take}
use Rattle.gateway_index.proofs.Names.{IsHeldStep, without_copies}
use Rattle.gateway_index.proofs.held_pair.HeldPair.take.Given as goal

-- the numbers so far are taken out
abbrev pub invariant-loop-number : goal.invariant-loop-number
invariant-loop-number l = IsHeldStep (without_copies l.node.0 (take l.number-index l.numbers)) l.fn.self l.self
