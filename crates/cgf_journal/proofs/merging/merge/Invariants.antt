use Rattle.std.proofs.Common.{◌≡◌, ◌+◌, ◌≤◌, ◌-◌, ◌++◌, length, drop, vec_capacity}
use Rattle.cgf_journal.specs.Merged.{merged, moved_keys}
use Rattle.cgf_journal.proofs.merging.merge.Given as goal

-- what is written so far, and what is left of the lists
abbrev pub invariant-loop-places : goal.invariant-loop-places
invariant-loop-places l = record {
  first : l.places.0 ≤ length l.keys;
  second : l.places.1 ≤ length l.others;
  written : l.into.items ++ merged l.to (drop l.places.0 l.keys) (moved_keys l.from l.to (drop l.places.1 l.others)) ≡ merged l.to l.keys (moved_keys l.from l.to l.others);
  count : length l.into.items ≤ l.places.0 + l.places.1;
  capacity : vec_capacity l.fn.into ≤ vec_capacity l.into;
}

abbrev pub decreases-loop-places : goal.decreases-loop-places
decreases-loop-places l = length l.keys + length l.others - (l.places.0 + l.places.1)
