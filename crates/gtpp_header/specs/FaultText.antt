-- What is said of why octets aren't read as a header.
use Rattle.std.specs.Prelude.{ℕ, List, ◌++◌, codes}
use Rattle.std.specs.Fmt.{decimal}
use Rattle.gtpp_header.specs.declared.fault.HeadFault.{HeadFault}
use Rattle.gtpp_header.specs.declared.fault.HeadFault.TheVariants.{Short, NotPrime, Version, Cut}

abbrev pub head_fault_text : HeadFault → List ℕ
head_fault_text Short = codes "fewer octets than a header has"
head_fault_text NotPrime = codes "the protocol type is not that of GTP'"
head_fault_text (Version version kind number) = codes "version " ++ decimal version ++ codes " of GTP'"
head_fault_text (Cut stated) = codes "fewer than " ++ decimal stated ++ codes " octets of payload"
