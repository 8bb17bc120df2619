-- What is said of why a record isn't added to a draft, and why a packet isn't taken.
use Rattle.std.specs.Prelude.{ℕ, List, codes}
use Rattle.node_core.specs.declared.fault.DraftFault.{DraftFault}
use Rattle.node_core.specs.declared.fault.DraftFault.TheVariants as draft
use Rattle.node_core.specs.declared.fault.SubmitFault.{SubmitFault}
use Rattle.node_core.specs.declared.fault.SubmitFault.TheVariants as submit

abbrev pub draft_fault_text : DraftFault → List ℕ
draft_fault_text draft.Count = codes "the packet has 255 records"
draft_fault_text draft.TooBig = codes "the request would be too long for a datagram"
draft_fault_text (draft.Ber fault) = codes "the record isn't one BER value"
draft_fault_text draft.NoMemory = codes "out of memory"

abbrev pub submit_fault_text : SubmitFault → List ℕ
submit_fault_text submit.Empty = codes "the packet has no record"
submit_fault_text submit.InFlight = codes "64 packets are open"
submit_fault_text (submit.NumbersOut gateway oldest next) = codes "the numbers of a gateway are used up"
submit_fault_text submit.NoMemory = codes "out of memory"
