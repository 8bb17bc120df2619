-- The packets that a node sends of itself fit a request, record by record.
use Rattle.std.proofs.Common.{◌≡◌, ℕ, suc, ◌+◌, ◌<◌, List, None, map, refl, sym, ap, arith}
use Rattle.std.proofs.lemmas.List.FromFn.{map-range_with_len_more}
use Rattle.std.specs.List.{range_with_len}
use Rattle.ber_frame.specs.Checked.{checked, value_at}
use Rattle.ber_frame.specs.Reading.{head_at, identifier_at, length_at}
use Rattle.gtpp_message.specs.Packet.{PacketForm}
use Rattle.gtpp_message.specs.PacketWriting.{with_record}
use Rattle.node_core.specs.Drafts.{addition_fault}
use Rattle.world_script.specs.Sample.{record_octets}

abbrev form_of : List (List ℕ) → PacketForm
form_of records = record { format = 1; version = 0x0600; records = records }

-- a packet with so many records
abbrev pub packet_upto : ℕ → ℕ → PacketForm
packet_upto packet n =
    record { format = 1; version = 0x0600; records = map (record_octets packet) (range_with_len 0 n) }

-- up to the fifth, each record is added
pub adds_next : (packet n : ℕ) → n < 5 → addition_fault (packet_upto packet n) (record_octets packet n) ≡ None
unfolding checked value_at head_at identifier_at length_at
adds_next packet (suc (suc (suc (suc (suc n))))) few = absurd (omega (arith, few))
adds_next packet _ few = refl

pub with_next_record : (packet n : ℕ)
    → with_record (packet_upto packet n) (record_octets packet n) ≡ packet_upto packet (n + 1)
with_next_record packet n = ap
    (λ (r : List (List ℕ)). form_of r)
    (sym (map-range_with_len_more (record_octets packet) 0 n n (omega arith)))
