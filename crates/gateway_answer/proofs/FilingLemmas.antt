-- Lemmas on filed records, for the loops that go over a history, the numbers of a release and the records of a packet.
use Rattle.std.proofs.Common.{◌≡◌, ℕ, ◌+◌, ◌<◌, List, [], ◌∷◌, ◌++◌, length, get_or, take, drop, fold, Option, None, ap, sym, ◌∙◌, append_assoc, Bool, true, false, refl}
use Rattle.gtpp_message.specs.Packet as packet
use Rattle.gateway_answer.proofs.Names.{along, drop_more, filed, filed_by, filed_record, filed_under, FiledRecord, fold_is, held_packet, HistoryEntry, list_all, packet_after, PacketKey, records_from, records_if, take_more}
use Rattle.gateway_answer.specs.FiledLaws.{held_packet-push}

-- the records so far, and those that the rest of the history files, are all of them
abbrev pub IsFiledSoFar : List HistoryEntry → ℕ → List FiledRecord → Type 0
IsFiledSoFar h place found = found ++ along filed_by (take place h) (drop place h) ≡ filed h

pub step_filed : (h : List HistoryEntry) (place : ℕ) (e : HistoryEntry) (before : List HistoryEntry) (found new : List FiledRecord) → place < length h →
    e ≡ get_or h place e → before ≡ take place h → new ≡ found ++ filed_by before e →
    IsFiledSoFar h place found → IsFiledSoFar h (place + 1) new
step_filed h place e before found new lt here front grown so_far =
    let rest : drop place h ≡ e ∷ drop (place + 1) h = drop_more h place e lt ∙ ap (λ x. x ∷ drop (place + 1) h) (sym here) in
    rw (grown, front, take_more h place e lt, ← here, append_assoc)
    (ap (λ r. found ++ along filed_by (take place h) r) (sym rest) ∙ so_far)

-- ---- the held packet, entry by entry

abbrev pub packet_from : ℕ → ℕ → Option (List ℕ) → List HistoryEntry → Option (List ℕ)
packet_from node number packet h = fold (λ p e. packet_after node number p e.act) packet h

-- the packet found entry by entry is the held one
pub held_packet_is : (node number : ℕ) (h : List HistoryEntry) → packet_from node number None h ≡ held_packet node number h
held_packet_is node number h = fold_is (λ (p : Option (List ℕ)) (e : HistoryEntry). packet_after node number p e.act) (held_packet node number) (held_packet-push node number) h

-- ---- the records of a packet

-- the records that a packet's value files are those of the packet that is stated with it
pub records_filed : (key : PacketKey) (moment count format version : ℕ) (value : List ℕ) → packet.IsPacket (packet.Full (packet.stated_form count format version value) value) →
    filed_under key moment value ≡ records_from key moment format version 0 (packet.packet_records (packet.Full (packet.stated_form count format version value) value))
records_filed key moment count format version value is = ap (records_if key moment) is

-- the first of the records is filed
pub filed_more : (key : PacketKey) (moment format version index : ℕ) (old rest : List (List ℕ)) (r : List ℕ) (front new : List FiledRecord) → old ≡ r ∷ rest →
    new ≡ front ++ filed_record key moment format version (index, r) ∷ [] →
    new ++ records_from key moment format version (index + 1) rest ≡ front ++ records_from key moment format version index old
filed_more key moment format version index old rest r front new is grown = rw (grown, is, append_assoc) refl

-- ---- lemmas on the records of packets, for the loops that walk them

-- All of some records.

pub all_more : (p : List ℕ → Bool) (old new : List (List ℕ)) (r : List ℕ) → old ≡ r ∷ new → p r ≡ true → list_all p new ≡ list_all p old
all_more p old new r is e = rw is (rw e refl)

pub all_but_one : (p : List ℕ → Bool) (old new : List (List ℕ)) (r : List ℕ) → old ≡ r ∷ new → p r ≡ false → list_all p old ≡ false
all_but_one p old new r is e = rw is (rw e refl)
