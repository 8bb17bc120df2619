-- A node of a world, in loops: addresses, messages and records, one after the other.
use Rattle.std.proofs.Common.{◌≡◌, ℕ, zero, suc, ◌+◌, true, if◌then◌else◌, List, [], ◌∷◌, ◌++◌, Option, Some, None, option_and_then, refl, ap, sym, arith, append_assoc, length, append-nil}
use Rattle.once_core.proofs.Names.{addresses_from, draft_of, draft_of_packet, gateway_address, is_draft, is_empty_packet, is_without_records, packet_anew, packet_of, packet_reading, PacketForm, takes_all, with_all, with_record}

pub addresses_none : addresses_from 0 0 ≡ []
addresses_none = refl

addresses_split : (first count : ℕ) → addresses_from first (suc count) ≡ addresses_from first count ++ gateway_address (first + count) ∷ []
addresses_split first zero = ap (λ n. gateway_address n ∷ []) (omega arith)
addresses_split first (suc count) = grind (arith, addresses_split (suc first) count)

pub addresses_more : (count : ℕ) → addresses_from 0 (count + 1) ≡ addresses_from 0 count ++ gateway_address count ∷ []
addresses_more count = grind (arith, addresses_split 0 count)

-- ---- a draft, record by record

abbrev with_records : PacketForm → List (List ℕ) → PacketForm
with_records form more = record form { records = form.records ++ more }

-- the draft, where it has a record
abbrev with_some : PacketForm → Option PacketForm
with_some form = if is_without_records form then None else Some form

all_or_none : (form : PacketForm) (records : List (List ℕ)) → with_all form records
    ≡ (if takes_all form records then with_some (with_records form records) else None)
all_or_none form [] = ap (λ (rs : List (List ℕ)). with_some (record form { records = rs })) (sym (append-nil form.records))
all_or_none form (r ∷ records) =
    grind (arith, append_assoc form.records (r ∷ []) records, all_or_none (with_record form r) records)

draft_of_form : (form : PacketForm) → with_all (packet_anew form.format form.version) form.records ≡ (if is_draft form then Some form else None)
draft_of_form form = grind (arith, all_or_none (packet_anew form.format form.version) form.records)

abbrev form_with : ℕ → ℕ → List (List ℕ) → PacketForm
form_with format version records = record { format = format; version = version; records = records }

none_of_empty : (octets : List ℕ) → is_empty_packet octets ≡ true → packet_of octets ≡ None
none_of_empty octets is = grind arith

pub draft_reading : (octets : List ℕ) → option_and_then draft_of_packet (packet_reading octets) ≡ draft_of octets
draft_reading octets = grind (arith, none_of_empty octets, draft_of_form)

pub addresses_length : (first count : ℕ) → length (addresses_from first count) ≡ count
addresses_length first zero = refl
addresses_length first (suc count) = ap suc (addresses_length (suc first) count)
