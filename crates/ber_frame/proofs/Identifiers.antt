-- Octets that are one identifier, the first fault of those that aren't, and the identifier in front of a value.
use Rattle.std.proofs.Common.{◌≡◌, ◌≢◌, ◌↔◌, ◌⊎◌, ℕ, ◌+◌, ◌-◌, zero, suc, List, [], ◌∷◌, ◌++◌, length, Option, Some, option_map, Result, Ok, refl, sym, ap, subst, ◌∙◌, append_assoc, arith, inl, inr}
use Rattle.std.specs.Result.{result_ok}
use Rattle.std.proofs.lemmas.List.{append-nil, length-append}
use Rattle.gw_base.specs.declared.tag.Tag.{Tag}
use Rattle.ber_frame.specs.declared.fault.BerFault.{BerFault}
use Rattle.ber_frame.specs.declared.fault.BerKind.{BerKind}
use Rattle.ber_frame.specs.declared.fault.BerKind.TheVariants.{Trailing}
use Rattle.ber_frame.specs.Head.{IsIdentifier}
use Rattle.ber_frame.specs.Faults.{fault_at, AfterIdentifier, IdentifierRefused}
use Rattle.ber_frame.specs.Reading.{front_tag, identifier_at, whole_tag, whole_identifier}
use Rattle.ber_frame.specs.Value.{BerValue}
use Rattle.ber_frame.proofs.Heads.{identifier_reads, identifier_fails, identifier_decide}
use Rattle.ber_frame.proofs.Checks.{decided, err, ok}

trailing : (tag : Tag) (count at : ℕ) (rest : List ℕ) → rest ≢ [] → count ≡ at + length rest → whole_tag count (Ok (tag, rest)) ≡ err (fault_at at Trailing)
trailing tag count at [] some e = absurd (some refl)
trailing tag count at (a ∷ rest) some e =
    let place : count - length (a ∷ rest) ≡ at = omega (arith, e) in
    ap (λ (n : ℕ). err (fault_at n Trailing)) place

right_reads : (octets : List ℕ) (tag : Tag) → IsIdentifier octets tag → whole_identifier octets ≡ ok tag
right_reads octets tag is = ap (whole_tag (length octets)) (identifier_reads octets tag [] (record { identifier = octets; joined = sym (append-nil octets); is_identifier = is }))

wrong_reads : (octets : List ℕ) (fault : BerFault) → IdentifierRefused octets fault → whole_identifier octets ≡ err fault
wrong_reads octets fault (inl h) = ap (whole_tag (length octets)) (identifier_fails octets h.0 h.1) ∙ ap err (sym h.2)
wrong_reads octets fault (inr h) =
    let read : identifier_at octets ≡ Ok (h.3.0, h.1) = identifier_reads octets h.3.0 h.1 (record { identifier = h.0; joined = h.2; is_identifier = h.3.1 }) in
    ap (whole_tag (length octets)) read ∙ trailing h.3.0 (length octets) (length h.0) h.1 h.4 (omega (arith, ap length h.2, length-append h.0 h.1)) ∙ ap err (sym h.5)

judge : (octets : List ℕ) → ((tag : Tag) × IsIdentifier octets tag) ⊎
    ((fault : BerFault) × IdentifierRefused octets fault)
judge octets = elim (identifier_decide octets) [
  | inl i ↦ by i.rest i.after
  | inr u ↦
      inr (fault_at 0 u.kind, inl (u.kind, u.fails, refl))
]
  where
    by : {tag : Tag} (rest : List ℕ) → AfterIdentifier octets tag rest →
        ((tag : Tag) × IsIdentifier octets tag) ⊎ ((fault : BerFault) × IdentifierRefused octets fault)
    by {tag} [] h = inl (
      tag,
      subst (λ (w : List ℕ). IsIdentifier w tag) (sym (h.joined ∙ append-nil h.identifier))
          h.is_identifier,
    )
    by {tag} (a ∷ rest) h =
        let some : a ∷ rest ≢ [] = λ none. absurd (cc (none)) in
        inr (
          fault_at (length h.identifier) Trailing,
          inr (
            h.identifier,
            a ∷ rest,
            h.joined,
            (tag, h.is_identifier),
            some,
            refl,
          ),
        )

pub identifier_answers : (octets : List ℕ) (result : Result Tag BerFault) → result ≡ whole_identifier octets
    → ((tag : Tag) → (result ≡ ok tag) ↔ IsIdentifier octets tag)
    × ((fault : BerFault) → (result ≡ err fault) ↔ IdentifierRefused octets fault)
identifier_answers octets result e = decided result (judge octets) (λ tag is. e ∙ right_reads octets tag is)
    (λ fault is. e ∙ wrong_reads octets fault is)

-- ---- in front of a value

abbrev first_tag : Result (Tag × List ℕ) BerKind → Option Tag
first_tag read = option_map (λ front. front.0) (result_ok read)

pub front_of_value : (levels : ℕ) (octets : List ℕ) (tag : Tag) → BerValue levels octets tag → front_tag octets ≡ Some tag
unfolding BerValue
front_of_value zero octets tag value = absurd value
front_of_value (suc levels) octets tag value = ap first_tag (identifier_reads octets tag (value.is_head.lengths ++ value.contents) (record {
  identifier = value.is_head.identifier;
  joined = value.joined ∙ ap (λ (head : List ℕ). head ++ value.contents) value.is_head.joined
      ∙ append_assoc value.is_head.identifier value.is_head.lengths value.contents;
  is_identifier = value.is_head.is_identifier;
}))
