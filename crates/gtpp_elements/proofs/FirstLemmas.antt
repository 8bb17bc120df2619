-- The first element of a type.
use Rattle.std.proofs.Common.{◌≡◌, ◌≢◌, ℕ, zero, suc, ◌-◌, true, false, List, [], ◌∷◌, length, All, Some, None, Result, Ok, Err, is_ok, refl, ap, sym, ◌∙◌, inl, inr, arith}
use Rattle.std.specs.Result.{result_unwrap_or}
use Rattle.std.proofs.lemmas.Bool.Decides.{eqb_tells}
use Rattle.gtpp_elements.specs.Elements.{Element, first_value}
use Rattle.gtpp_elements.specs.Reading.{element_at}
use Rattle.gtpp_elements.specs.declared.fault.ElementFault.{ElementFault}
use Rattle.gtpp_elements.proofs.ReadingLemmas.{elements_before, left, left_element, left_fault, left_nothing, ok_before}

-- an element of the type in front of others
pub first_of_kind : (kind : ℕ) (element : Element) (elements : List Element) → element.kind ≡ kind → first_value kind (element ∷ elements) ≡ Some element.value
first_of_kind kind element elements same =
    elim (eqb_tells element.kind kind) [
      | inl equal ↦ rw equal.0 refl
      | inr other ↦ absurd (other.1 same)
    ]

-- an element of another type in front of others
pub first_of_others : (kind : ℕ) (element : Element) (elements : List Element) → element.kind ≢ kind → first_value kind (element ∷ elements) ≡ first_value kind elements
first_of_others kind element elements other =
    elim (eqb_tells element.kind kind) [
      | inl equal ↦ absurd (other equal.1)
      | inr differs ↦ rw differs.0 refl
    ]

-- the element at the front is the first of its type
pub first_here : (body octets : List ℕ) (element : Element) (rest : List ℕ) (kind : ℕ) (elements : List Element) →
    Ok (element, rest) ≡ element_at (length body - length octets) octets → is_ok (left body octets) ≡ true →
    first_value kind (result_unwrap_or (left body octets) []) ≡ first_value kind elements → element.kind ≡ kind → Some element.value ≡ first_value kind elements
first_here body octets element rest kind elements read whole same is =
    let step = left_element body octets element rest (sym read) in
    let ok : is_ok (left body rest) ≡ true = sym (ok_before element (left body rest)) ∙ ap is_ok (sym step) ∙ whole in
    sym (first_of_kind kind element (result_unwrap_or (left body rest) []) is)
    ∙ ap (first_value kind) (sym (elements_before element (left body rest) ok) ∙ ap (λ (r : Result (List Element) ElementFault). result_unwrap_or r []) (sym step))
    ∙ same

-- the element at the front is of another type
pub whole_further : (body octets : List ℕ) (element : Element) (rest : List ℕ) →
    Ok (element, rest) ≡ element_at (length body - length octets) octets → is_ok (left body octets) ≡ true → is_ok (left body rest) ≡ true
whole_further body octets element rest read whole =
    let step = left_element body octets element rest (sym read) in
    sym (ok_before element (left body rest)) ∙ ap is_ok (sym step) ∙ whole

pub first_further : (body octets : List ℕ) (element : Element) (rest : List ℕ) (kind : ℕ) (elements : List Element) →
    Ok (element, rest) ≡ element_at (length body - length octets) octets → is_ok (left body octets) ≡ true →
    first_value kind (result_unwrap_or (left body octets) []) ≡ first_value kind elements → element.kind ≢ kind →
    first_value kind (result_unwrap_or (left body rest) []) ≡ first_value kind elements
first_further body octets element rest kind elements read whole same other =
    let step = left_element body octets element rest (sym read) in
    let ok = whole_further body octets element rest read whole in
    sym (first_of_others kind element (result_unwrap_or (left body rest) []) other)
    ∙ ap (first_value kind) (sym (elements_before element (left body rest) ok) ∙ ap (λ (r : Result (List Element) ElementFault). result_unwrap_or r []) (sym step))
    ∙ same

-- no element is left
pub first_nowhere : (body octets : List ℕ) (fault : ElementFault) (kind : ℕ) (elements : List Element) →
    Err fault ≡ element_at (length body - length octets) octets → is_ok (left body octets) ≡ true →
    first_value kind (result_unwrap_or (left body octets) []) ≡ first_value kind elements → None ≡ first_value kind elements
first_nowhere body [] fault kind elements read whole same =
    sym (ap (λ (r : Result (List Element) ElementFault). first_value kind (result_unwrap_or r [])) (left_nothing body)) ∙ same
first_nowhere body (o ∷ octets) fault kind elements read whole same =
    let failed = left_fault body (o ∷ octets) fault (omega arith) (sym read) in
    let never : false ≡ true = ap is_ok (sym failed) ∙ whole in
    cc

-- where there is a first element of the type, some element has it
pub some_of_kind : (kind : ℕ) (elements : List Element) (value : List ℕ) → Some value ≡ first_value kind elements → All (λ (element : Element). element.kind ≢ kind) elements → ⊥
some_of_kind kind [] value found none = cc
some_of_kind kind (element ∷ elements) value found none =
    some_of_kind kind elements value (found ∙ first_of_others kind element elements (none 0 element (omega arith))) (λ k d below. none (suc k) d (omega arith))

-- where there is none, no element has it
pub none_of_kind : (kind : ℕ) (elements : List Element) → None ≡ first_value kind elements → All (λ (element : Element). element.kind ≢ kind) elements
none_of_kind kind [] found k d below same = absurd (omega arith)
none_of_kind kind (element ∷ elements) found zero d below same =
    let some = first_of_kind kind element elements same in cc
none_of_kind kind (element ∷ elements) found (suc k) d below same =
    elim (eqb_tells element.kind kind) [
      | inl equal ↦ let some = first_of_kind kind element elements equal.1 in cc
      | inr other ↦ none_of_kind kind elements (found ∙ first_of_others kind element elements other.1) k d (omega arith) same
    ]
