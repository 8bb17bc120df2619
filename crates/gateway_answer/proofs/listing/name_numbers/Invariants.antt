use Rattle.std.proofs.Common.{◌≡◌, ◌++◌, length, map, drop}
use Rattle.gw_base.specs.Nearest.{nearest}
use Rattle.gateway_answer.proofs.listing.name_numbers.Given as goal

-- the numbers so far, and those that are left, are all of them; there are as many as were looked at
abbrev pub invariant-loop-place : goal.invariant-loop-place
invariant-loop-place l = record {
  numbers : l.into.items.items ++ map (nearest l.top) (drop l.place l.numbers) ≡ map (nearest l.top) l.numbers;
  count : length l.into.items.items ≡ l.place;
}
