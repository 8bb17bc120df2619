use Rattle.std.proofs.Common.{◌≡◌, take}
use Rattle.gate_journal.proofs.reading.first_difference.Given as goal

abbrev pub invariant-loop-i : goal.invariant-loop-i
invariant-loop-i l = take l.i l.read ≡ take l.i l.header
