use Rattle.std.proofs.Common.{◌≡◌, ◌+◌, ◌≤◌, ◌-◌, ◌^◌, length, drop, min}
use Rattle.cgf_jobs.specs.FeedReport.{lines_size}
use Rattle.cgf_jobs.proofs.printing.make_room.Given as goal

-- the lines of the files so far, and those that are left
abbrev pub invariant-loop-file : goal.invariant-loop-file
invariant-loop-file l = record {
  counted : min (l.size + lines_size (drop l.at l.shelf.contents.files)) (2 ^ 64 - 1) ≡ min (lines_size l.shelf.contents.files) (2 ^ 64 - 1);
  within : l.at ≤ length l.shelf.contents.files;
}

abbrev pub decreases-loop-file : goal.decreases-loop-file
decreases-loop-file l = length l.shelf.contents.files - l.at
