-- Records are read just where the octets spell them.
use Rattle.std.proofs.Common.{◌≡◌, ◌↔◌, ℕ, zero, suc, ◌≤◌, Bool, true, false, cond, List, [], ◌∷◌, ◌++◌, length, take, drop, Option, Some, None, nat_lt, option_map, option_and_then, refl, ap, sym, subst, ◌∙◌, ◌⊎◌, inl, inr, arith, length-append}
use Rattle.std.proofs.Math.Seq.{drop-append_seam, take-append_seam}
use Rattle.std.proofs.lemmas.Bool.{le-ltb, ltb-false}
use Rattle.std.proofs.lemmas.List.{length-take-le, take-append-drop}
use Rattle.gtpp_header.specs.Header.{two_octets}
use Rattle.gtpp_message.specs.Packet.{SpellRecords, SpellsRecord, record_at, records_at}

-- which way a choice went
pub chosen : {T : Type 0} → (b : Bool) (x y z : T) → cond b x y ≡ z → ((b ≡ true) × (x ≡ z)) ⊎ ((b ≡ false) × (y ≡ z))
chosen true x y z e = inl (refl, e)
chosen false x y z e = inr (refl, e)

parts_are : (a b : List ℕ × List ℕ) → ◌≡◌ {A = Option (List ℕ × List ℕ)} (Some a) (Some b) → a ≡ b
parts_are a b e = cc

-- a record that is read is spelled at the front
spelled_record : (octets : List ℕ) (parts : List ℕ × List ℕ) → record_at octets ≡ Some parts → SpellsRecord parts.0 parts.1 octets
spelled_record (high ∷ low ∷ rest) parts e =
    let n = two_octets high low in
    elim (chosen (nat_lt (length rest) n) _ _ _ e) [
      | inl cut ↦ cc (cut.1)
      | inr whole ↦
          let fits : n ≤ length rest = ltb-false _ _ whole.0 in
          subst (λ (p : List ℕ × List ℕ). SpellsRecord p.0 p.1 (high ∷ low ∷ rest)) (parts_are (take n rest, drop n rest) parts whole.1)
          (record {
            high = high;
            low = low;
            stated = length-take-le n rest fits;
            whole = ap (λ (v : List ℕ). high ∷ low ∷ v) (sym (take-append-drop n rest));
          })
    ]
spelled_record _ parts e = cc

-- a record that is spelled at the front is read
record_again : (first rest octets : List ℕ) → SpellsRecord first rest octets → record_at octets ≡ Some (first, rest)
record_again first rest octets spells =
    let n = two_octets spells.high spells.low in
    let all = first ++ rest in
    let uncut : nat_lt (length all) n ≡ false = le-ltb _ _ (omega (arith, length-append first rest, spells.stated)) in
    ap record_at spells.whole
    ∙ ap (λ (b : Bool). cond b None (Some (take n all, drop n all))) uncut
    ∙ ap (λ (k : ℕ). Some (take k all, drop k all)) (sym spells.stated)
    ∙ ap (λ (v : List ℕ). Some (v, drop (length first) all)) (take-append_seam first rest)
    ∙ ap (λ (v : List ℕ). Some (first, v)) (drop-append_seam first rest)

records_are : (a b : List (List ℕ)) → ◌≡◌ {A = Option (List (List ℕ))} (Some a) (Some b) → a ≡ b
records_are a b e = cc

-- so many records, one after the other
unfoldable pub Counted : ℕ → List (List ℕ) → List ℕ → Type 0
Counted count records octets = (length records ≡ count) × SpellRecords records octets

counted_more : (more : Option (List (List ℕ))) (count : ℕ) (first rest octets : List ℕ) (records : List (List ℕ)) → SpellsRecord first rest octets →
    ((others : List (List ℕ)) → more ≡ Some others → Counted count others rest) → option_map (λ rs. first ∷ rs) more ≡ Some records → Counted (suc count) records octets
unfolding Counted
counted_more None count first rest octets records spells counted e = cc
counted_more (Some others) count first rest octets records spells counted e =
    let those = counted others refl in
    subst (λ (rs : List (List ℕ)). (length rs ≡ suc count) × SpellRecords rs octets) (records_are (first ∷ others) records e)
    (omega (arith, those.0), (rest, spells, those.1))

counted_behind : (count : ℕ) (octets : List ℕ) (records : List (List ℕ)) (found : Option (List ℕ × List ℕ)) → record_at octets ≡ found →
    ((rest : List ℕ) (others : List (List ℕ)) → records_at count rest ≡ Some others → Counted count others rest) →
    option_and_then (λ (parts : List ℕ × List ℕ). option_map (λ rs. parts.0 ∷ rs) (records_at count parts.1)) found ≡ Some records → Counted (suc count) records octets
counted_behind count octets records None is counted e = cc
counted_behind count octets records (Some parts) is counted e =
    counted_more (records_at count parts.1) count parts.0 parts.1 octets records (spelled_record octets parts is) (counted parts.1) e

pub counted : (count : ℕ) (octets : List ℕ) (records : List (List ℕ)) → records_at count octets ≡ Some records → Counted count records octets
unfolding Counted
counted zero [] records e = subst (λ (rs : List (List ℕ)). (length rs ≡ 0) × SpellRecords rs []) (records_are [] records e) (refl, refl)
counted zero (octet ∷ octets) records e = cc
counted (suc count) octets records e = counted_behind count octets records (record_at octets) refl (counted count) e

pub records_again : (records : List (List ℕ)) (octets : List ℕ) → SpellRecords records octets → records_at (length records) octets ≡ Some records
records_again [] octets none = ap (records_at 0) none
records_again (first ∷ records) octets (rest, spells, others) =
    ap (λ (found : Option (List ℕ × List ℕ)). option_and_then (λ (parts : List ℕ × List ℕ). option_map (λ rs. parts.0 ∷ rs) (records_at (length records) parts.1)) found) (record_again first rest octets spells)
    ∙ ap (option_map (λ rs. first ∷ rs)) (records_again records rest others)

pub records_spelled : (count : ℕ) (records : List (List ℕ)) (octets : List ℕ) → (records_at count octets ≡ Some records) ↔ ((length records ≡ count) × SpellRecords records octets)
unfolding Counted
records_spelled count records octets =
    (λ e. counted count octets records e, λ says. ap (λ (n : ℕ). records_at n octets) (sym says.0) ∙ records_again records octets says.1)
