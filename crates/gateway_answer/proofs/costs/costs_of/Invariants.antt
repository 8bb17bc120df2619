use Rattle.std.proofs.Common.{◌≡◌, ◌+◌, ◌*◌, ◌≤◌, drop}
use Rattle.entry_codec.specs.Room.{costs_of}
use Rattle.gateway_answer.proofs.costs.costs_of.Given as goal

-- the costs so far and those of the entries that are left are all costs, each below 2 ^ 64
abbrev pub invariant-loop-entry : goal.invariant-loop-entry
invariant-loop-entry l = record {
  costs : l.costs + costs_of (drop l.entry-index l.history) ≡ costs_of l.history;
  bound : l.costs ≤ l.entry-index * 18446744073709551615;
}
