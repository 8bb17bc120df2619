-- What is said of why octets aren't a CDR file.
use Rattle.std.specs.Prelude.{ℕ, List, ◌++◌, codes}
use Rattle.std.specs.Fmt.{decimal}
use Rattle.cdr_file.specs.declared.fault.FileFault.{FileFault}
use Rattle.cdr_file.specs.declared.fault.FileFault.TheVariants.{Bad, NoMemory}
use Rattle.cdr_file.specs.Names.{name_of}

abbrev pub file_fault_text : FileFault → List ℕ
file_fault_text (Bad place kind) = decimal place ++ codes ": " ++ name_of kind
file_fault_text NoMemory = codes "out of memory"
