use Rattle.std.proofs.Common.{◌≡◌, ◌+◌, ◌++◌, drop}
use Rattle.cdr_file.specs.Listing.{cdr_lines, listing}
use Rattle.cdr_file.proofs.listing.list.Given as goal

-- the lines so far, and those of the CDRs that are left, are all of them
abbrev pub invariant-loop-place : goal.invariant-loop-place
invariant-loop-place l = l.text.items ++ cdr_lines (l.place + 1) (drop l.place l.file.cdrs) ≡ listing l.file
