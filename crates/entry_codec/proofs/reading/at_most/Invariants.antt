use Rattle.std.proofs.Common.{◌≡◌, ◌≤◌, drop, length}
use Rattle.entry_codec.specs.Reading.{at_most}
use Rattle.entry_codec.proofs.reading.at_most.Given as goal

-- what is read of the rest is what is read of the whole
abbrev pub invariant-loop-i : goal.invariant-loop-i
invariant-loop-i l = record {
  reads : at_most (drop l.i l.bound) l.rest ≡ at_most l.bound l.octets;
  shorter : length l.rest ≤ length l.octets;
}
