-- What a gateway that has just begun to run answers to datagrams of one sender, one after the other: worked values.
use Rattle.std.specs.Prelude.{ℕ, List, [], ◌∷◌}
use Rattle.gtpp_message.specs.Message.{TransferResponse}
use Rattle.gtpp_message.specs.Packet.{PacketValue, Full}
use Rattle.gw_base.specs.declared.address.Addr.{Addr}
use Rattle.gw_base.specs.declared.history.HistoryAct.TheVariants as act
use Rattle.gw_base.specs.declared.history.HistoryEntry.{HistoryEntry}
use Rattle.gateway_answer.specs.Answer.{Given, Replies}
use Rattle.gateway_answer.specs.Answered.{after_answer, answer_to, entry_by, no_caller}
use Rattle.gateway_answer.specs.Preparing.{PreparedValue}

-- 10.0.1.1:40001
abbrev pub a_node : Addr
a_node = record { ip = 0x0A00_0101; port = 40001 }

-- a packet of one record of format 1, and its value
abbrev pub one_record : PacketValue
one_record =
    Full (record { format = 1; version = 0x0600; records = (0xA0 ∷ 3 ∷ 0x80 ∷ 1 ∷ 5 ∷ []) ∷ [] })
    (1 ∷ 1 ∷ 6 ∷ 0 ∷ 0 ∷ 5 ∷ 0xA0 ∷ 3 ∷ 0x80 ∷ 1 ∷ 5 ∷ [])

abbrev pub just_started : List HistoryEntry
just_started = entry_by [] 0 no_caller act.Start ∷ []

-- the history after these datagrams, on so many octets
abbrev pub played : ℕ → List HistoryEntry → List PreparedValue → List HistoryEntry
played size h [] = h
played size h (d ∷ datagrams) = played size (after_answer h 0 no_caller (answer_to h a_node d size)) datagrams

-- the cause that is answered, and 0 where none is
abbrev pub cause_of : Given → ℕ
cause_of (Replies number (TransferResponse cause responded) act) = cause
cause_of _ = 0

-- the cause that answers each of these datagrams
abbrev pub causes : ℕ → List HistoryEntry → List PreparedValue → List ℕ
causes size h [] = []
causes size h (d ∷ datagrams) =
    cause_of (answer_to h a_node d size) ∷ causes size (after_answer h 0 no_caller (answer_to h a_node d size)) datagrams
