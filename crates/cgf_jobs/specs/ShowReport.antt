-- What `show` prints: the listing of a CDR file (3GPP TS 32.297, clause 6.1), or nothing where the octets are none.
use Rattle.std.specs.Prelude.{ℕ, List, [], Result, Ok, Err}
use Rattle.cdr_file.specs.Listing.{listing}
use Rattle.cdr_file.specs.Reading.{file_in}
use Rattle.cdr_file.specs.declared.fault.FileFault.{FileFault}
use Rattle.cdr_file.specs.declared.file.CdrFile.{CdrFile}

abbrev pub listed : Result CdrFile FileFault → List ℕ
listed (Ok file) = listing file
listed (Err fault) = []

-- what is printed for the octets of a file
abbrev pub show_report : List ℕ → List ℕ
show_report octets = listed (file_in octets)
