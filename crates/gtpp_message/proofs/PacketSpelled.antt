-- A packet is read just where the octets spell it.
use Rattle.std.proofs.Common.{◌≡◌, ◌↔◌, ℕ, ◌==◌, Bool, true, false, cond, List, [], ◌∷◌, length, Option, Some, None, option_map, refl, ap, sym, subst, ◌∙◌, inl, inr, arith}
use Rattle.std.proofs.lemmas.Bool.{eqb-false, ne_eqb}
use Rattle.std.proofs.lemmas.Bool.Decides.{eqb_tells}
use Rattle.std.proofs.lemmas.Option.{same_Some}
use Rattle.gtpp_header.specs.Header.{two_octets}
use Rattle.gtpp_message.specs.Packet.{PacketForm, PacketValue, Empty, Full, SpellsEmpty, SpellsForm, SpellsPacket, full_packet, is_empty_packet, packet_in, packet_of, packet_reading, records_at}
use Rattle.gtpp_message.proofs.PacketLemmas.{full_read, packet_back}
use Rattle.gtpp_message.proofs.RecordLemmas.{Counted, counted, records_again}

-- The full packet.

spelled_in : (count format high low : ℕ) (octets : List ℕ) (form : PacketForm) → packet_in count format (two_octets high low) octets ≡ Some form →
    SpellsForm form (count ∷ format ∷ high ∷ low ∷ octets)
unfolding Counted
spelled_in count format high low octets form e = by_test (count == 0) refl (records_at count octets) refl e
  where
    by_test : (none : Bool) → (count == 0) ≡ none → (records : Option (List (List ℕ))) → records_at count octets ≡ records →
        cond none None (option_map (λ (rs : List (List ℕ)). let p : PacketForm = record { format = format; version = two_octets high low; records = rs } in p) records) ≡ Some form →
        SpellsForm form (count ∷ format ∷ high ∷ low ∷ octets)
    by_test true is records read e = cc
    by_test false is None read e = cc
    by_test false is (Some records) read e =
        let stated : PacketForm = record { format = format; version = two_octets high low; records = records } in
        let those = counted count octets records read in
        let some = eqb-false count 0 is in
        subst (λ (f : PacketForm). SpellsForm f (count ∷ format ∷ high ∷ low ∷ octets)) (same_Some stated form e)
        (record {
          version_high = high;
          version_low = low;
          octets = octets;
          some = omega (arith, those.0, some);
          version = refl;
          whole = ap (λ (n : ℕ). n ∷ format ∷ high ∷ low ∷ octets) (sym those.0);
          records = those.1;
        })

form_spelled : (value : List ℕ) (form : PacketForm) → packet_of value ≡ Some form → SpellsForm form value
form_spelled (a ∷ b ∷ c ∷ d ∷ octets) form e = spelled_in a b c d octets form e
form_spelled _ form e = cc

form_again : (form : PacketForm) (value : List ℕ) → SpellsForm form value → packet_of value ≡ Some form
form_again form value spells =
    let count = length form.records in
    let octets = spells.octets in
    let some : (count == 0) ≡ false = ne_eqb _ _ (λ none. absurd (omega (arith, none, spells.some))) in
    ap packet_of spells.whole
    ∙ ap (λ (n : ℕ). packet_in count form.format n octets) (sym spells.version)
    ∙ ap (λ (none : Bool). cond none None (option_map (λ (rs : List (List ℕ)). let p : PacketForm = record { format = form.format; version = form.version; records = rs } in p)
    (records_at count octets))) some
    ∙ ap (option_map (λ (rs : List (List ℕ)). let p : PacketForm = record { format = form.format; version = form.version; records = rs } in p)) (records_again form.records octets spells.records)

-- The empty packet.

zero_is : (n : ℕ) → (n == 0) ≡ true → n ≡ 0
zero_is n e = elim (eqb_tells n 0) [ inl same ↦ same.1 | inr other ↦ let never = other.0 in cc ]

by_emptiness : (empty : Bool) (full : Option PacketForm) (value : List ℕ) → cond empty (Some Empty) (option_map (λ (f : PacketForm). Full f value) full) ≡ Some Empty → empty ≡ true
by_emptiness true full value e = refl
by_emptiness false None value e = cc
by_emptiness false (Some form) value e = cc

empty_spelled : (value : List ℕ) → is_empty_packet value ≡ true → SpellsEmpty value
empty_spelled [] e = tt
empty_spelled (a ∷ []) e = zero_is a e
empty_spelled (a ∷ b ∷ c ∷ d ∷ []) e = zero_is a e
empty_spelled _ e = cc

empty_again : (value : List ℕ) → SpellsEmpty value → is_empty_packet value ≡ true
empty_again [] none = refl
empty_again (a ∷ []) none = ap (λ (n : ℕ). n == 0) none
empty_again (a ∷ b ∷ c ∷ d ∷ []) none = ap (λ (n : ℕ). n == 0) none
empty_again _ none = absurd none

pub packet_said : (packet : PacketValue) (value : List ℕ) → packet_reading value ≡ Some packet → SpellsPacket packet value
packet_said Empty value e = empty_spelled value (by_emptiness (is_empty_packet value) (packet_of value) value e)
packet_said (Full form octets) value e = let read = full_read form octets value e in (sym read.1, form_spelled value form read.0)

pub packet_again : (packet : PacketValue) (value : List ℕ) → SpellsPacket packet value → packet_reading value ≡ Some packet
packet_again Empty value spells = ap (λ (b : Bool). cond b (Some Empty) (full_packet value)) (empty_again value spells)
packet_again (Full form octets) value (same, spells) = packet_back form value (form_again form value spells) ∙ ap (λ (v : List ℕ). Some (Full form v)) (sym same)

pub packet_spelled : (packet : PacketValue) (value : List ℕ) → (packet_reading value ≡ Some packet) ↔ SpellsPacket packet value
packet_spelled packet value = (packet_said packet value, packet_again packet value)
