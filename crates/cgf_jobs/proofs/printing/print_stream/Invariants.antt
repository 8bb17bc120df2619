use Rattle.std.proofs.Common.{◌≡◌, ◌≤◌, ◌++◌, ◌-◌, length, drop}
use Rattle.cgf_jobs.proofs.Names.{file_line, flat_map, in_stream}
use Rattle.cgf_jobs.proofs.printing.print_stream.Given as goal

-- what was printed, and the lines of the files that are left
abbrev pub invariant-loop-name : goal.invariant-loop-name
invariant-loop-name l = record {
  printed : l.printed.items ++ flat_map (file_line 0) (in_stream l.stream (drop l.at l.shelf.contents.files))
      ≡ l.fn.printed.items ++ flat_map (file_line 0) (in_stream l.stream l.shelf.contents.files);
  within : l.at ≤ length l.shelf.contents.files;
}

abbrev pub decreases-loop-name : goal.decreases-loop-name
decreases-loop-name l = length l.shelf.contents.files - l.at
