-- In front of octets there is a value, or they have a first fault.
use Rattle.std.proofs.Common.{◌≡◌, ℕ, zero, suc, ◌+◌, ◌<◌, ◌≤◌, ◌⊎◌, Bool, true, false, List, [], ◌∷◌, ◌++◌, length, take, drop, Option, Some, None, refl, sym, ap, subst, ◌∙◌, append_assoc, arith, inl, inr}
use Rattle.std.specs.List.{concat, AllByRecursion}
use Rattle.std.proofs.lemmas.Bool.{cases_lt, cases_Bool}
use Rattle.std.proofs.lemmas.List.{append-nil, take-append-drop, length-append, length-take-le}
use Rattle.gw_base.specs.declared.tag.Tag.{Tag}
use Rattle.ber_frame.specs.declared.fault.BerFault.{BerFault}
use Rattle.ber_frame.specs.declared.fault.BerKind.TheVariants.{Cut, TooDeep}
use Rattle.ber_frame.specs.Head.{IsIdentifier, IsLengthForm, IsHead}
use Rattle.ber_frame.specs.Value.{begins_with_end, are_over, IsInner, IsContents, BerValue, IsOneValue}
use Rattle.ber_frame.specs.Faults.{fault_at, IsAllowed, InnerFails, ContentsFail, ValueFails}
use Rattle.ber_frame.proofs.Heads.{IsOctets, IsOctets-back, IsOctets-front, Headed, Unheaded, head_decide}

-- ---- a value has at least two octets

identifier_long : (octets : List ℕ) (tag : Tag) → IsIdentifier octets tag → 0 < length octets
identifier_long [] tag h = absurd h
identifier_long (a ∷ octets) tag h = omega arith

lengths_long : (octets : List ℕ) (size : Option ℕ) → IsLengthForm octets size → 0 < length octets
lengths_long [] size h = absurd h
lengths_long (a ∷ octets) size h = omega arith

pub head_long : (head : List ℕ) (tag : Tag) (size : Option ℕ) → IsHead head tag size → 2 ≤ length head
head_long head tag size h =
    omega (arith, ap length h.joined, length-append h.identifier h.lengths, identifier_long h.identifier tag h.is_identifier, lengths_long h.lengths size h.is_length)

pub value_long : (levels : ℕ) (octets : List ℕ) (tag : Tag) → BerValue levels octets tag → 2 ≤ length octets
unfolding BerValue
value_long zero octets tag h = absurd h
value_long (suc levels) octets tag h = omega (arith, ap length h.joined, length-append h.head h.contents, head_long h.head tag h.size h.is_head)

-- ---- where inner values are over

end_in_front : (octets rest : List ℕ) → 2 ≤ length octets → begins_with_end (octets ++ rest) ≡ begins_with_end octets
end_in_front [] rest h = absurd (omega arith)
end_in_front (a ∷ []) rest h = absurd (omega arith)
end_in_front (zero ∷ zero ∷ octets) rest h = refl
end_in_front (zero ∷ suc b ∷ octets) rest h = refl
end_in_front (suc a ∷ b ∷ octets) rest h = refl

pub over_in_front : (endless : Bool) (octets rest : List ℕ) → 2 ≤ length octets → are_over endless (octets ++ rest) ≡ are_over endless octets
over_in_front false [] rest h = absurd (omega arith)
over_in_front false (a ∷ octets) rest h = refl
over_in_front true octets rest h = end_in_front octets rest h

pub nothing_left : (octets : List ℕ) → are_over false octets ≡ true → octets ≡ []
nothing_left [] h = refl
nothing_left (a ∷ octets) h = absurd cc

pub end_left : (octets : List ℕ) → are_over true octets ≡ true → octets ≡ 0 ∷ 0 ∷ drop 2 octets
end_left [] h = absurd cc
end_left (a ∷ []) h = absurd cc
end_left (zero ∷ zero ∷ octets) h = refl
end_left (zero ∷ suc b ∷ octets) h = absurd cc
end_left (suc a ∷ b ∷ octets) h = absurd cc

-- ---- inner values

pub record Fronted (IsValue : List ℕ → Type 0) (octets : List ℕ) : Type 0 where
  pub value : List ℕ
  pub rest : List ℕ
  pub joined : octets ≡ value ++ rest
  pub is_value : IsValue value

pub record Unfronted (Fails : ℕ → List ℕ → BerFault → Type 0) (at : ℕ) (octets : List ℕ) : Type 0 where
  pub fault : BerFault
  pub fails : Fails at octets fault

record Sequence (IsValue : List ℕ → Type 0) (endless : Bool) (octets : List ℕ) : Type 0 where
  values : List (List ℕ)
  rest : List ℕ
  joined : octets ≡ concat values ++ rest
  are_values : AllByRecursion (IsInner IsValue endless) values
  over : are_over endless rest ≡ true

record Broken (IsValue : List ℕ → Type 0) (Fails : ℕ → List ℕ → BerFault → Type 0) (endless : Bool) (at : ℕ) (octets : List ℕ) : Type 0 where
  fault : BerFault
  fails : InnerFails IsValue Fails endless at octets fault

-- what one more value in front makes of the rest
sequence_more : (IsValue : List ℕ → Type 0) (endless : Bool) (octets : List ℕ) (f : Fronted IsValue octets) → are_over endless f.value ≡ false → Sequence IsValue endless f.rest → Sequence IsValue endless octets
sequence_more IsValue endless octets f not_over s = record {
  values = f.value ∷ s.values;
  rest = s.rest;
  joined = f.joined ∙ ap (λ (x : List ℕ). f.value ++ x) s.joined ∙ sym (append_assoc f.value (concat s.values) s.rest);
  are_values = ((f.is_value, not_over), s.are_values);
  over = s.over;
}

broken_more : (IsValue : List ℕ → Type 0) (Fails : ℕ → List ℕ → BerFault → Type 0) (endless : Bool) (at : ℕ) (octets : List ℕ) (f : Fronted IsValue octets) → are_over endless f.value ≡ false
    → Broken IsValue Fails endless (at + length f.value) f.rest → Broken IsValue Fails endless at octets
broken_more IsValue Fails endless at octets f not_over b =
    let place : at + length f.value + length (concat b.fails.values) ≡ at + length (f.value ++ concat b.fails.values) = omega (arith, length-append f.value (concat b.fails.values)) in
    record {
      fault = b.fault;
      fails = record {
        values = f.value ∷ b.fails.values;
        rest = b.fails.rest;
        joined = f.joined ∙ ap (λ (x : List ℕ). f.value ++ x) b.fails.joined ∙ sym (append_assoc f.value (concat b.fails.values) b.fails.rest);
        are_values = ((f.is_value, not_over), b.fails.are_values);
        goes_on = b.fails.goes_on;
        fails = subst (λ (n : ℕ). Fails n b.fails.rest b.fault) place b.fails.fails;
      };
    }

broken_here : (IsValue : List ℕ → Type 0) (Fails : ℕ → List ℕ → BerFault → Type 0) (endless : Bool) (at : ℕ) (octets : List ℕ) → are_over endless octets ≡ false → Unfronted Fails at octets → Broken IsValue Fails endless at octets
broken_here IsValue Fails endless at octets goes_on u =
    let place : at ≡ at + 0 = omega arith in
    record {
      fault = u.fault;
      fails = record { values = []; rest = octets; joined = refl; are_values = tt; goes_on = goes_on; fails = subst (λ (n : ℕ). Fails n octets u.fault) place u.fails };
    }

inner_decide : (IsValue : List ℕ → Type 0) (Fails : ℕ → List ℕ → BerFault → Type 0)
    → ((at : ℕ) (octets : List ℕ) → IsOctets octets → Fronted IsValue octets ⊎ Unfronted Fails at octets)
    → ((octets : List ℕ) → IsValue octets → 2 ≤ length octets)
    → (endless : Bool) (fuel at : ℕ) (octets : List ℕ) → length octets < fuel → IsOctets octets
    → Sequence IsValue endless octets ⊎ Broken IsValue Fails endless at octets
inner_decide IsValue Fails decide long endless zero at octets lt small = absurd (omega arith)
inner_decide IsValue Fails decide long endless (suc fuel) at octets lt small =
    elim (cases_Bool (are_over endless octets)) [
      | inl over ↦ inl (record { values = []; rest = octets; joined = refl; are_values = tt; over = over })
      | inr goes_on ↦ elim (decide at octets small) [
        | inr u ↦ inr (broken_here IsValue Fails endless at octets goes_on u)
        | inl f ↦
            let not_over : are_over endless f.value ≡ false = sym (over_in_front endless f.value f.rest (long f.value f.is_value)) ∙ ap (are_over endless) (sym f.joined) ∙ goes_on in
            let shorter : length f.rest < fuel = omega (arith, ap length f.joined, length-append f.value f.rest, long f.value f.is_value) in
            elim (inner_decide IsValue Fails decide long endless fuel (at + length f.value) f.rest shorter (IsOctets-back f.value f.rest (subst IsOctets f.joined small))) [
              | inl s ↦ inl (sequence_more IsValue endless octets f not_over s)
              | inr b ↦ inr (broken_more IsValue Fails endless at octets f not_over b)
            ]
      ]
    ]

-- ---- contents

-- octets begin with contents of this form, and go on
record Filled (IsValue : List ℕ → Type 0) (constructed : Bool) (size : Option ℕ) (octets : List ℕ) : Type 0 where
  contents : List ℕ
  rest : List ℕ
  joined : octets ≡ contents ++ rest
  is_contents : IsContents IsValue constructed size contents

record Unfilled (IsValue : List ℕ → Type 0) (Fails : ℕ → List ℕ → BerFault → Type 0) (at from : ℕ) (constructed : Bool) (size : Option ℕ) (octets : List ℕ) : Type 0 where
  fault : BerFault
  fails : ContentsFail IsValue Fails at from constructed size octets fault

primitive_filled : (IsValue : List ℕ → Type 0) (size : ℕ) (octets : List ℕ) → size ≤ length octets → Filled IsValue false (Some size) octets
primitive_filled IsValue size octets there = record {
  contents = take size octets;
  rest = drop size octets;
  joined = sym (take-append-drop size octets);
  is_contents = length-take-le size octets there;
}

definite_filled : (IsValue : List ℕ → Type 0) (size : ℕ) (octets : List ℕ) → size ≤ length octets → Sequence IsValue false (take size octets) → Filled IsValue true (Some size) octets
definite_filled IsValue size octets there s =
    let whole : take size octets ≡ concat s.values = s.joined ∙ ap (λ (x : List ℕ). concat s.values ++ x) (nothing_left s.rest s.over) ∙ append-nil (concat s.values) in
    record {
      contents = take size octets;
      rest = drop size octets;
      joined = sym (take-append-drop size octets);
      is_contents = (length-take-le size octets there, s.values, s.are_values, whole);
    }

endless_filled : (IsValue : List ℕ → Type 0) (octets : List ℕ) → Sequence IsValue true octets → Filled IsValue true None octets
endless_filled IsValue octets s = record {
  contents = concat s.values ++ 0 ∷ 0 ∷ [];
  rest = drop 2 s.rest;
  joined = s.joined ∙ ap (λ (x : List ℕ). concat s.values ++ x) (end_left s.rest s.over) ∙ sym (append_assoc (concat s.values) (0 ∷ 0 ∷ []) (drop 2 s.rest));
  is_contents = (s.values, s.are_values, refl);
}

contents_decide : (IsValue : List ℕ → Type 0) (Fails : ℕ → List ℕ → BerFault → Type 0)
    → ((at : ℕ) (octets : List ℕ) → IsOctets octets → Fronted IsValue octets ⊎ Unfronted Fails at octets)
    → ((octets : List ℕ) → IsValue octets → 2 ≤ length octets)
    → (at from : ℕ) (constructed : Bool) (size : Option ℕ) (octets : List ℕ) → IsAllowed constructed size → IsOctets octets
    → Filled IsValue constructed size octets ⊎ Unfilled IsValue Fails at from constructed size octets
contents_decide IsValue Fails decide long at from false None octets allowed small = absurd cc
contents_decide IsValue Fails decide long at from true None octets allowed small =
    elim (inner_decide IsValue Fails decide long true (suc (length octets)) from octets (omega arith) small) [
      | inl s ↦ inl (endless_filled IsValue octets s)
      | inr b ↦ inr (record { fault = b.fault; fails = b.fails })
    ]
contents_decide IsValue Fails decide long at from false (Some size) octets allowed small =
    elim (cases_lt (length octets) size) [
      | inl short ↦ inr (record { fault = fault_at at Cut; fails = (short, refl) })
      | inr there ↦ inl (primitive_filled IsValue size octets there)
    ]
contents_decide IsValue Fails decide long at from true (Some size) octets allowed small =
    elim (cases_lt (length octets) size) [
      | inl short ↦ inr (record { fault = fault_at at Cut; fails = inl (short, refl) })
      | inr there ↦
          let front : IsOctets (take size octets) = IsOctets-front (take size octets) (drop size octets) (subst IsOctets (sym (take-append-drop size octets)) small) in
          elim (inner_decide IsValue Fails decide long false (suc (length (take size octets))) from (take size octets) (omega arith) front) [
            | inl s ↦ inl (definite_filled IsValue size octets there s)
            | inr b ↦ inr (record { fault = b.fault; fails = inr (there, b.fails) })
          ]
    ]

-- ---- values

abbrev pub Fronts : ℕ → ℕ → List ℕ → Type 0
Fronts levels at octets = Fronted (IsOneValue levels) octets ⊎ Unfronted (ValueFails levels) at octets

headless : (levels at : ℕ) (octets : List ℕ) → Unheaded octets → Unfronted (ValueFails levels) at octets
unfolding ValueFails
headless zero at octets u = record { fault = fault_at at u.kind; fails = inl (u.kind, u.fails, refl) }
headless (suc levels) at octets u = record { fault = fault_at at u.kind; fails = inl (u.kind, u.fails, refl) }

too_deep : (at : ℕ) (octets : List ℕ) → Headed octets → Unfronted (ValueFails zero) at octets
unfolding ValueFails
too_deep at octets h = record { fault = fault_at at TooDeep; fails = inr (h.tag, h.size, h.head, h.rest, h.after, refl) }

contents_wrong : (levels at : ℕ) (octets : List ℕ) (h : Headed octets) → Unfilled (IsOneValue levels) (ValueFails levels) at (at + length h.head) h.tag.constructed h.size h.rest → Unfronted (ValueFails (suc levels)) at octets
unfolding ValueFails
contents_wrong levels at octets h u = record { fault = u.fault; fails = inr (h.tag, h.size, h.head, h.rest, h.after, u.fails) }

filled : (levels : ℕ) (octets : List ℕ) (h : Headed octets) → Filled (IsOneValue levels) h.tag.constructed h.size h.rest → Fronted (IsOneValue (suc levels)) octets
unfolding BerValue
filled levels octets h f = record {
  value = h.head ++ f.contents;
  rest = f.rest;
  joined = h.after.joined ∙ ap (λ (x : List ℕ). h.head ++ x) f.joined ∙ sym (append_assoc h.head f.contents f.rest);
  is_value = (h.tag, record { size = h.size; head = h.head; contents = f.contents; joined = refl; is_head = h.after.is_head; is_contents = f.is_contents });
}

pub value_decide : (levels at : ℕ) (octets : List ℕ) → IsOctets octets → Fronts levels at octets
value_decide zero at octets small =
    elim (head_decide octets small) [
      | inl h ↦ inr (too_deep at octets h)
      | inr u ↦ inr (headless zero at octets u)
    ]
value_decide (suc levels) at octets small =
    elim (head_decide octets small) [
      | inr u ↦ inr (headless (suc levels) at octets u)
      | inl h ↦
          let rest : IsOctets h.rest = IsOctets-back h.head h.rest (subst IsOctets h.after.joined small) in
          elim (contents_decide (IsOneValue levels) (ValueFails levels) (value_decide levels) (λ v is. value_long levels v is.0 is.1) at (at + length h.head) h.tag.constructed h.size h.rest h.after.is_allowed rest) [
            | inl f ↦ inl (filled levels octets h f)
            | inr w ↦ inr (contents_wrong levels at octets h w)
          ]
    ]
