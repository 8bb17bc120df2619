use Rattle.std.proofs.Common.{◌≡◌, ℕ, ◌<◌, ◌≤◌, length, slice_index}
use Rattle.route_filter.specs.Starts.{group_count, start_after}
use Rattle.route_filter.proofs.rules.pass.Given as goal

-- the starts of the groups so far were moved, and the others stand
abbrev pub invariant-loop-group : goal.invariant-loop-group
invariant-loop-group l = record {
  groups : length l.starts ≡ group_count;
  moved : (g : ℕ) → g < l.group → slice_index l.starts g ≡ start_after g l.rule l.count (slice_index l.fn.starts g);
  left : (g : ℕ) → l.group ≤ g → slice_index l.starts g ≡ slice_index l.fn.starts g;
}
