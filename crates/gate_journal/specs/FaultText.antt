-- What is said of why a call of a journal failed.
use Rattle.std.specs.Prelude.{ℕ, List, ◌++◌, codes}
use Rattle.std.specs.Fmt.{decimal}
use Rattle.gate_journal.specs.declared.faults.OpenFault.{OpenFault}
use Rattle.gate_journal.specs.declared.faults.OpenFault.TheVariants as opening
use Rattle.gate_journal.specs.declared.faults.AppendFault.{AppendFault}
use Rattle.gate_journal.specs.declared.faults.AppendFault.TheVariants as appending

abbrev pub open_fault_text : OpenFault → List ℕ
open_fault_text opening.Device = codes "the device failed"
open_fault_text (opening.NotOurs at) = codes "no journal of ours: octet " ++ decimal at
open_fault_text opening.NoMemory = codes "out of memory"

abbrev pub append_fault_text : AppendFault → List ℕ
append_fault_text appending.Device = codes "the device failed"
append_fault_text (appending.Full free) = codes "the batch doesn't fit: " ++ decimal free ++ codes " octets are free"
