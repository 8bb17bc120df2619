use Rattle.std.proofs.Common.{◌≡◌, drop, max}
use Rattle.cdr_shelf.specs.Files.{greatest_in}
use Rattle.cdr_shelf.proofs.contents.Contents.greatest.Given as goal

-- what the files so far and the others give is what all give
abbrev pub invariant-files : goal.invariant-files
invariant-files l =
    max l.greatest (greatest_in l.stream (drop l.file-index l.file-items)) ≡ greatest_in l.stream l.file-items
