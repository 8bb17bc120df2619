-- What is said of why items weren't taken, or the sealed files weren't asked for.
use Rattle.std.specs.Prelude.{ℕ, List, codes}
use Rattle.file_writer.specs.declared.fault.ShelfFault.{ShelfFault}
use Rattle.file_writer.specs.declared.fault.ShelfFault.TheVariants.{Device, NoMemory}

abbrev pub shelf_fault_text : ShelfFault → List ℕ
shelf_fault_text Device = codes "the shelf failed"
shelf_fault_text NoMemory = codes "out of memory"
