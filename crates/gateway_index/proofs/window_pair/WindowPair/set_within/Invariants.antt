use Rattle.std.proofs.Common.{take}
use Rattle.gateway_index.proofs.Names.{half, IsPairStep, with_states}
use Rattle.gateway_index.proofs.window_pair.WindowPair.set_within.Given as goal

-- the numbers so far have their states
abbrev pub invariant-loop-number : goal.invariant-loop-number
invariant-loop-number l = IsPairStep (with_states half (take l.number-index l.numbers) l.state) l.fn.self l.self
