use Rattle.std.proofs.Common.{◌≡◌, drop, length}
use Rattle.area_disk.specs.Past.{image_after, changes_of, written_by}
use Rattle.area_disk.proofs.past.replay.Given as goal

abbrev pub invariant-calls : goal.invariant-calls
invariant-calls l = record {
  image : image_after (changes_of (drop l.call-index l.calls) l.rest) l.image ≡ image_after (changes_of l.calls l.octets) l.initial.image;
  total : written_by (drop l.call-index l.calls) ≡ length l.rest;
  size : length l.image ≡ length l.initial.image;
}
