-- Reading the elements of a body, one after the other.
use Rattle.std.proofs.Common.{◌≡◌, ℕ, suc, ◌-◌, ◌<◌, ◌≤◌, Bool, true, false, not, cond, List, [], ◌∷◌, length, drop, Option, Some, None, Result, Ok, Err, is_ok, nat_lt, refl, ap, sym, ◌∙◌, ◌⊎◌, inl, inr, arith}
use Rattle.std.specs.Bool.{◌==◌}
use Rattle.std.specs.Result.{result_err, result_unwrap_or}
use Rattle.std.proofs.lemmas.Bool.Decides.{eqb_tells}
use Rattle.std.proofs.lemmas.List.{length-drop}
use Rattle.gtpp_header.specs.Header.{two_octets}
use Rattle.gtpp_elements.specs.Elements.{Element, is_fixed, is_known_fixed}
use Rattle.gtpp_elements.specs.Reading.{and_then, before, element_at, elements_in, elements_left, fixed_at, sized_at}
use Rattle.gtpp_elements.specs.declared.fault.ElementFault.{ElementFault}

-- which way a choice went
pub chosen : {T : Type 0} → (b : Bool) (x y z : T) → cond b x y ≡ z → ((b ≡ true) × (x ≡ z)) ⊎ ((b ≡ false) × (y ≡ z))
chosen true x y z e = inl (refl, e)
chosen false x y z e = inr (refl, e)

shorter_fixed : (at kind : ℕ) (octets : List ℕ) (found : Element × List ℕ) → fixed_at at kind octets ≡ Ok found → length found.1 ≤ length octets
shorter_fixed at kind [] found e = cc
shorter_fixed at kind (octet ∷ rest) found e =
    let same : rest ≡ found.1 = cc in omega (arith, ap length same)

shorter_sized : (at kind : ℕ) (octets : List ℕ) (found : Element × List ℕ) → sized_at at kind octets ≡ Ok found → length found.1 ≤ length octets
shorter_sized at kind (high ∷ low ∷ octets) found e =
    elim (chosen (nat_lt (length octets) (two_octets high low)) _ _ _ e) [
      | inl cut ↦ cc (cut.1)
      | inr whole ↦ let same : drop (two_octets high low) octets ≡ found.1 = cc (whole.1) in omega (arith, ap length same, length-drop (two_octets high low) octets)
    ]
shorter_sized at kind _ found e = cc

-- an element takes an octet at least
pub shorter : (at : ℕ) (octets : List ℕ) (found : Element × List ℕ) → element_at at octets ≡ Ok found → length found.1 < length octets
shorter at [] found e = cc
shorter at (kind ∷ octets) found e =
    elim (chosen (not (is_fixed kind)) _ _ _ e) [
      | inl sized ↦ omega (arith, shorter_sized at kind octets found sized.1)
      | inr fixed ↦ elim (chosen (is_known_fixed kind) _ _ _ fixed.1) [
        | inl known ↦ omega (arith, shorter_fixed at kind octets found known.1)
        | inr unknown ↦ cc (unknown.1)
      ]
    ]

same_behind : (read : Result (Element × List ℕ) ElementFault) (f g : List ℕ → Result (List Element) ElementFault) →
    ((found : Element × List ℕ) → read ≡ Ok found → f found.1 ≡ g found.1) → and_then read f ≡ and_then read g
same_behind (Ok found) f g same = ap (before found.0) (same found refl)
same_behind (Err fault) f g same = refl

-- more than as many as octets need not be looked for
enough : (m n total : ℕ) (octets : List ℕ) → length octets ≤ m → length octets ≤ n → elements_left m total octets ≡ elements_left n total octets
unfolding elements_left
enough m n total [] in_m in_n = refl
enough (suc m) (suc n) total (kind ∷ octets) in_m in_n =
    same_behind (element_at (total - length (kind ∷ octets)) (kind ∷ octets)) (elements_left m total) (elements_left n total)
    (λ found e. let less : length found.1 ≤ length octets = omega (arith, shorter (total - length (kind ∷ octets)) (kind ∷ octets) found e) in enough m n total found.1 (omega arith) (omega arith))
enough _ _ total (kind ∷ octets) in_m in_n = absurd (omega arith)

-- what is left of a body
abbrev pub left : List ℕ → List ℕ → Result (List Element) ElementFault
left body rest = elements_left (length rest) (length body) rest

pub left_nothing : (body : List ℕ) → left body [] ≡ Ok []
unfolding elements_left
left_nothing body = refl

-- an element at the front
pub left_element : (body octets : List ℕ) (element : Element) (rest : List ℕ) → element_at (length body - length octets) octets ≡ Ok (element, rest) → left body octets ≡ before element (left body rest)
unfolding elements_left
left_element body [] element rest e = cc
left_element body (kind ∷ octets) element rest e =
    let less : length rest ≤ length octets = omega (arith, shorter (length body - length (kind ∷ octets)) (kind ∷ octets) (element, rest) e) in
    ap (λ (read : Result (Element × List ℕ) ElementFault). and_then read (elements_left (length octets) (length body))) e
    ∙ ap (before element) (enough (length octets) (length rest) (length body) rest (omega arith) (omega arith))

-- a fault at the front
pub left_fault : (body octets : List ℕ) (fault : ElementFault) → 0 < length octets → element_at (length body - length octets) octets ≡ Err fault → left body octets ≡ Err fault
unfolding elements_left
left_fault body [] fault some e = absurd (omega arith)
left_fault body (kind ∷ octets) fault some e =
    ap (λ (read : Result (Element × List ℕ) ElementFault). and_then read (elements_left (length octets) (length body))) e

-- an element at the front has no fault of its own
pub fault_before : (element : Element) (others : Result (List Element) ElementFault) → result_err (before element others) ≡ result_err others
fault_before element (Ok elements) = refl
fault_before element (Err fault) = refl

pub ok_before : (element : Element) (others : Result (List Element) ElementFault) → is_ok (before element others) ≡ is_ok others
ok_before element (Ok elements) = refl
ok_before element (Err fault) = refl

pub elements_before : (element : Element) (others : Result (List Element) ElementFault) → is_ok others ≡ true →
    result_unwrap_or (before element others) [] ≡ element ∷ result_unwrap_or others []
elements_before element (Ok elements) ok = refl
elements_before element (Err fault) ok = cc

-- the fault of what is left behind an element is the fault of what was left before it
pub fault_further : (body octets : List ℕ) (element : Element) (rest : List ℕ) (fault : Option ElementFault) →
    Ok (element, rest) ≡ element_at (length body - length octets) octets → result_err (left body octets) ≡ fault → result_err (left body rest) ≡ fault
fault_further body octets element rest fault read is =
    sym (fault_before element (left body rest)) ∙ ap result_err (sym (left_element body octets element rest (sym read))) ∙ is

-- nothing is left
pub no_fault_left : (body rest : List ℕ) (fault : Option ElementFault) → (length rest == 0) ≡ true → result_err (left body rest) ≡ fault → fault ≡ None
no_fault_left body [] fault none is = sym is ∙ ap result_err (left_nothing body)
no_fault_left body (octet ∷ rest) fault none is =
    elim (eqb_tells (length (octet ∷ rest)) 0) [ inl same ↦ absurd (omega (arith, same.1)) | inr other ↦ let e = other.0 in cc ]

-- where there is no fault, the elements are read
pub no_fault : (read : Result (List Element) ElementFault) → result_err read ≡ None → is_ok read ≡ true
no_fault (Ok elements) e = refl
no_fault (Err fault) e = cc

pub ok_again : (read : Result (List Element) ElementFault) → result_err read ≡ None → Ok (result_unwrap_or read []) ≡ read
ok_again (Ok elements) e = refl
ok_again (Err fault) e = cc

pub err_again : (read : Result (List Element) ElementFault) (fault : ElementFault) → result_err read ≡ Some fault → Err fault ≡ read
err_again (Ok elements) fault e = cc
err_again (Err other) fault e = let same : other ≡ fault = cc in ap Err (sym same)

-- a fault of what is left is the fault of the body
pub fault_left : (body octets : List ℕ) (fault : ElementFault) → (length octets == 0) ≡ false → Err fault ≡ element_at (length body - length octets) octets →
    result_err (left body octets) ≡ result_err (elements_in body) → Err fault ≡ elements_in body
fault_left body [] fault some read is = cc
fault_left body (octet ∷ octets) fault some read is =
    err_again (elements_in body) fault (sym is ∙ ap result_err (left_fault body (octet ∷ octets) fault (omega arith) (sym read)))
