-- What is said of why a copy isn't held.
use Rattle.std.specs.Prelude.{ℕ, List, codes}
use Rattle.dup_buffer.specs.declared.fault.HoldFault.{HoldFault}
use Rattle.dup_buffer.specs.declared.fault.HoldFault.TheVariants.{Full, NoMemory}

abbrev pub hold_fault_text : HoldFault → List ℕ
hold_fault_text Full = codes "65,536 copies are held"
hold_fault_text NoMemory = codes "out of memory"
