-- What is said of how the job ended.
use Rattle.std.specs.Prelude.{ℕ, ◌-◌, List, ◌++◌, codes}
use Rattle.std.specs.Fmt.{decimal}
use Rattle.gw_base.specs.declared.packet.PacketId.{PacketId}
use Rattle.cgf_jobs.specs.declared.status.Status.{Status}
use Rattle.cgf_jobs.specs.declared.status.Status.TheVariants as status
use Rattle.cgf_jobs.specs.declared.status.StoreFault.TheVariants as fault
use Rattle.cgf_jobs.specs.declared.input_kind.InputKind.{InputKind}
use Rattle.cgf_jobs.specs.declared.input_kind.InputKind.TheVariants as input

-- the name of a kind of refusal, which is that of its own case
abbrev pub kind_name : InputKind → List ℕ
kind_name input.TooLong = codes "TooLong"
kind_name input.Word = codes "Word"
kind_name input.NotBuilt = codes "NotBuilt"
kind_name input.After = codes "After"
kind_name input.Late = codes "Late"
kind_name input.Arity = codes "Arity"
kind_name input.Number = codes "Number"
kind_name input.Hex = codes "Hex"
kind_name input.Rule = codes "Rule"
kind_name input.NoEnd = codes "NoEnd"
kind_name input.Earlier = codes "Earlier"
kind_name input.NoGateway = codes "NoGateway"
kind_name input.NoNode = codes "NoNode"
kind_name input.NoMessage = codes "NoMessage"
kind_name input.Halted = codes "Halted"
kind_name input.Stopped = codes "Stopped"
kind_name input.Running = codes "Running"
kind_name input.Restarts = codes "Restarts"
kind_name input.Short = codes "Short"
kind_name input.FileLength = codes "FileLength"
kind_name input.HeaderLength = codes "HeaderLength"
kind_name input.Filter = codes "Filter"
kind_name input.Extension = codes "Extension"
kind_name input.CdrHeader = codes "CdrHeader"
kind_name input.CdrCut = codes "CdrCut"
kind_name input.Count = codes "Count"
kind_name input.NotPrime = codes "NotPrime"
kind_name input.Version = codes "Version"
kind_name input.Rest = codes "Rest"

-- a packet of a loop: the number of its node, from 1, and its own
abbrev pub packet_text : PacketId → List ℕ
packet_text packet = decimal (packet.node.0 - 0x7F00_0064) ++ codes "." ++ decimal packet.number

abbrev pub status_text : Status → List ℕ
status_text status.Done = codes "cgf: done"
status_text status.Words = codes "cgf: words"
status_text (status.Input place kind) = codes "cgf: input " ++ decimal place ++ codes ": " ++ kind_name kind
status_text status.Read = codes "cgf: read"
status_text status.Write = codes "cgf: write"
status_text status.Memory = codes "cgf: memory"
status_text (status.Store fault.Device) = codes "cgf: store"
status_text (status.Store (fault.NotOurs at)) = codes "cgf: store " ++ decimal at
status_text status.Link = codes "cgf: link"
status_text (status.Audit packet places wanted) =
    codes "cgf: audit " ++ packet_text packet ++ codes " " ++ decimal places ++ codes " of " ++ decimal wanted
status_text (status.Unfinished turns packet count) =
    codes "cgf: unfinished " ++ decimal turns ++ codes " " ++ packet_text packet ++ codes " " ++ decimal count
