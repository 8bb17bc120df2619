use Rattle.std.proofs.Common.{◌≡◌, ◌++◌, length, map, drop}
use Rattle.gateway_answer.proofs.listing.find_states.Given as goal

-- the states so far, and those of the numbers that are left, are all of them; there are as many as were looked at
abbrev pub invariant-loop-number : goal.invariant-loop-number
invariant-loop-number g l = record {
  states : l.into.items.items ++ map ((g.O.Observe.seen l.seen l.node).state) (drop l.number-index l.numbers)
      ≡ map ((g.O.Observe.seen l.seen l.node).state) l.numbers;
  count : length l.into.items.items ≡ l.number-index;
}
