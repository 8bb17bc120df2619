use Rattle.std.proofs.Common.{◌≡◌, ◌+◌, ◌≤◌, length}
use Rattle.gw_base.specs.History.{copies_of}
use Rattle.gw_base.proofs.scan.copies_of.Given as goal

-- the copies counted so far and those of what is left are those of the whole history
abbrev pub invariant-loop-entry : goal.invariant-loop-entry
invariant-loop-entry l = record {
  held : l.copies.held + (copies_of l.left).held ≡ (copies_of l.history).held;
  stranded : l.copies.stranded + (copies_of l.left).stranded ≡ (copies_of l.history).stranded;
  within : l.copies.held + l.copies.stranded + length l.left ≤ length l.history;
}

abbrev pub decreases-loop-entry : goal.decreases-loop-entry
decreases-loop-entry l = length l.left
