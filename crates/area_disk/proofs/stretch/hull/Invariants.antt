use Rattle.std.proofs.Common.{◌≡◌, ◌≤◌, min, max, drop}
use Rattle.area_disk.specs.Stretch.{low_of, high_of}
use Rattle.area_disk.proofs.stretch.hull.Given as goal

abbrev pub invariant-stretches : goal.invariant-stretches
invariant-stretches l = record {
  low : min l.low (low_of (drop l.stretch-index l.stretches)) ≡ low_of l.stretches;
  high : max l.high (high_of (drop l.stretch-index l.stretches)) ≡ high_of l.stretches;
  fits : l.high ≤ l.length;
}
