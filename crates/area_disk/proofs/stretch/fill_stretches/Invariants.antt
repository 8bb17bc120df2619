use Rattle.std.proofs.Common.{◌≡◌, drop, length}
use Rattle.area_disk.specs.Stretch.{filled}
use Rattle.area_disk.proofs.stretch.fill_stretches.Given as goal

abbrev pub invariant-stretches : goal.invariant-stretches
invariant-stretches l = record {
  filled : filled l.value (drop l.stretch-index l.stretches) l.octets ≡ filled l.value l.stretches l.initial.octets;
  size : length l.octets ≡ length l.initial.octets;
}
