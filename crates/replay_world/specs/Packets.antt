-- The packet of a `submit` line.
use Rattle.std.specs.Prelude.{ℕ, List, [], ◌∷◌, Option, Some, None, Result, Ok, Err}
use Rattle.gtpp_message.specs.Packet.{PacketForm}
use Rattle.gtpp_message.specs.PacketWriting.{with_record}
use Rattle.node_core.specs.Drafts.{addition_fault, packet_anew}
use Rattle.node_core.specs.declared.fault.DraftFault.{DraftFault}

-- what is left to do where nothing was refused, else the fault
abbrev pub unless_fault : Option DraftFault → Result PacketForm DraftFault → Result PacketForm DraftFault
unless_fault None later = later
unless_fault (Some fault) later = Err fault

-- records are added one after the other, until one isn't taken
abbrev pub with_records : PacketForm → List (List ℕ) → Result PacketForm DraftFault
with_records form [] = Ok form
with_records form (octets ∷ records) =
    unless_fault (addition_fault form octets) (with_records (with_record form octets) records)

abbrev pub drafted : ℕ → ℕ → List (List ℕ) → Result PacketForm DraftFault
drafted format version records = with_records (packet_anew format version) records
