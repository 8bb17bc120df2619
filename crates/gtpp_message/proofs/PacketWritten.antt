-- A packet's value that is written is read back, and grows record by record.
use Rattle.std.proofs.Common.{◌≡◌, ℕ, suc, ◌/◌, ◌%◌, ◌==◌, Bool, false, cond, List, [], ◌∷◌, ◌++◌, length, take, drop, nat_lt, Option, Some, None, option_map, option_and_then, refl, ap, sym, ◌∙◌, arith, append_assoc, length-append}
use Rattle.std.specs.List.{flat_map}
use Rattle.std.proofs.Math.Seq.{drop-append_seam, take-append_seam}
use Rattle.std.proofs.lemmas.Bool.{le-ltb, ne_eqb}
use Rattle.std.proofs.lemmas.List.{append-nil}
use Rattle.gtpp_header.specs.Header.{two_octets}
use Rattle.gtpp_message.specs.Packet.{PacketForm, packet_in, packet_of, record_at, records_at}
use Rattle.gtpp_message.specs.PacketWriting.{IsForm, record_octets, value_of, with_record, with_record_octets}

-- a number is that of its two octets
two_octets_of : (n : ℕ) → two_octets (n / 256) (n % 256) ≡ n
two_octets_of n = omega arith

record_back : (octets rest : List ℕ) → record_at (record_octets octets ++ rest) ≡ Some (octets, rest)
record_back octets rest =
    let all = octets ++ rest in
    let uncut : nat_lt (length all) (length octets) ≡ false = le-ltb _ _ (omega (arith, length-append octets rest)) in
    ap (λ (n : ℕ). cond (nat_lt (length all) n) None (Some (take n all, drop n all))) (two_octets_of (length octets))
    ∙ ap (λ (b : Bool). cond b None (Some (take (length octets) all, drop (length octets) all))) uncut
    ∙ ap (λ (v : List ℕ). Some (v, drop (length octets) all)) (take-append_seam octets rest)
    ∙ ap (λ (v : List ℕ). Some (octets, v)) (drop-append_seam octets rest)

records_back : (records : List (List ℕ)) → records_at (length records) (flat_map record_octets records) ≡ Some records
records_back [] = refl
records_back (octets ∷ records) =
    ap (λ (found : Option (List ℕ × List ℕ)). option_and_then (λ (parts : List ℕ × List ℕ). option_map (λ rs. parts.0 ∷ rs) (records_at (length records) parts.1)) found)
    (record_back octets (flat_map record_octets records))
    ∙ ap (option_map (λ rs. octets ∷ rs)) (records_back records)

pub read_back : (form : PacketForm) → IsForm form → packet_of (value_of form) ≡ Some form
read_back form is =
    let some : (length form.records == 0) ≡ false = ne_eqb _ _ (λ none. absurd (omega (arith, none, is.some))) in
    ap (λ (n : ℕ). packet_in (length form.records) form.format n (flat_map record_octets form.records)) (two_octets_of form.version)
    ∙ ap (λ (none : Bool). cond none None (option_map (λ (rs : List (List ℕ)). let p : PacketForm = record { format = form.format; version = form.version; records = rs } in p)
    (records_at (length form.records) (flat_map record_octets form.records)))) some
    ∙ ap (option_map (λ (rs : List (List ℕ)). let p : PacketForm = record { format = form.format; version = form.version; records = rs } in p)) (records_back form.records)

flat_more : (records : List (List ℕ)) (octets : List ℕ) → flat_map record_octets (records ++ octets ∷ []) ≡ flat_map record_octets records ++ record_octets octets
flat_more [] octets = append-nil (record_octets octets)
flat_more (r ∷ records) octets =
    ap (λ (o : List ℕ). record_octets r ++ o) (flat_more records octets) ∙ sym (append_assoc (record_octets r) (flat_map record_octets records) (record_octets octets))

pub one_more : (form : PacketForm) (octets : List ℕ) → value_of (with_record form octets) ≡ with_record_octets (value_of form) octets
one_more form octets =
    let count : length (form.records ++ octets ∷ []) ≡ suc (length form.records) = omega (arith, length-append form.records (octets ∷ [])) in
    ap (λ (n : ℕ). n ∷ form.format ∷ form.version / 256 ∷ form.version % 256 ∷ flat_map record_octets (form.records ++ octets ∷ [])) count
    ∙ ap (λ (o : List ℕ). suc (length form.records) ∷ form.format ∷ form.version / 256 ∷ form.version % 256 ∷ o) (flat_more form.records octets)
