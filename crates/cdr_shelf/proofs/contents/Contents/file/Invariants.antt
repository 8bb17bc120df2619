use Rattle.std.proofs.Common.{◌≡◌, drop}
use Rattle.cdr_shelf.specs.Files.{file_named}
use Rattle.cdr_shelf.proofs.contents.Contents.file.Given as goal

-- none of the files so far has the name
abbrev pub invariant-files : goal.invariant-files
invariant-files l = file_named l.name (drop l.file-index l.file-items) ≡ file_named l.name l.file-items
