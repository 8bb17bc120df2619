-- What is read of a body is spelled there, and what is spelled there is read.
use Rattle.std.proofs.Common.{◌≡◌, ℕ, zero, suc, ◌+◌, ◌-◌, ◌/◌, ◌%◌, ◌<◌, ◌≤◌, Bool, true, false, not, cond, IsTrue, MatchBool, List, [], ◌∷◌, ◌++◌, length, take, drop, Result, Ok, Err, nat_lt, refl, ap, sym, subst, ◌∙◌, ◌⊎◌, ◌↔◌, inl, inr, arith, append_assoc, length-append}
use Rattle.std.proofs.Math.Seq.{drop-append_seam, take-append_seam}
use Rattle.std.proofs.lemmas.Bool.{le-ltb, lt-ltb, ltb-false, ltb-true, not-false, not-true}
use Rattle.std.proofs.lemmas.List.{length-take-le, take-append-drop}
use Rattle.gtpp_header.specs.Header.{two_octets}
use Rattle.gtpp_elements.specs.Elements.{AreSendable, Element, IsSendable, element_octets, octets_of, SpellElements, SpellsElement, is_fixed, is_known_fixed}
use Rattle.gtpp_elements.specs.Reading.{FaultyAt, IsFirstFault, IsUnknown, RunsPast, and_then, before, element_at, elements_in, elements_left, fixed_at, sized_at}
use Rattle.gtpp_elements.specs.declared.fault.ElementFault.{ElementFault}
use Rattle.gtpp_elements.specs.declared.fault.ElementFault.TheVariants.{Overrun, UnknownFixed}
use Rattle.gtpp_elements.proofs.ReadingLemmas.{chosen, left, left_element, left_fault, left_nothing, shorter}

-- the octets of the element, and what follows it
pub record Found (octets : List ℕ) (found : Element × List ℕ) : Type 0 where
  pub front : List ℕ
  pub whole : octets ≡ front ++ found.1
  pub spelled : SpellsElement found.0 front

found_is : (octets : List ℕ) (a b : Element × List ℕ) → ◌≡◌ {A = Result (Element × List ℕ) ElementFault} (Ok a) (Ok b) → Found octets a → Found octets b
found_is octets a b e found = let same : a ≡ b = cc in subst (λ (f : Element × List ℕ). Found octets f) same found

found_fixed : (at kind : ℕ) (octets : List ℕ) (found : Element × List ℕ) → is_fixed kind ≡ true → is_known_fixed kind ≡ true → fixed_at at kind octets ≡ Ok found → Found (kind ∷ octets) found
found_fixed at kind [] found fixed known e = cc
found_fixed at kind (octet ∷ rest) found fixed known e =
    found_is (kind ∷ octet ∷ rest) (record { kind = kind; value = octet ∷ [] }, rest) found e
    (record { front = kind ∷ octet ∷ []; whole = refl; spelled = inl (record { octet = octet; fixed = fixed; known = known; value = refl; spelled = refl }) })

found_sized : (at kind : ℕ) (octets : List ℕ) (found : Element × List ℕ) → is_fixed kind ≡ false → sized_at at kind octets ≡ Ok found → Found (kind ∷ octets) found
found_sized at kind (high ∷ low ∷ octets) found sized e =
    elim (chosen (nat_lt (length octets) (two_octets high low)) _ _ _ e) [
      | inl cut ↦ cc (cut.1)
      | inr whole ↦
          let fits : two_octets high low ≤ length octets = ltb-false _ _ whole.0 in
          found_is (kind ∷ high ∷ low ∷ octets) (record { kind = kind; value = take (two_octets high low) octets }, drop (two_octets high low) octets) found whole.1
          (record {
            front = kind ∷ high ∷ low ∷ take (two_octets high low) octets;
            whole = ap (λ (v : List ℕ). kind ∷ high ∷ low ∷ v) (sym (take-append-drop (two_octets high low) octets));
            spelled = inr (record { high = high; low = low; sized = sized; stated = length-take-le (two_octets high low) octets fits; spelled = refl });
          })
    ]
found_sized at kind _ found sized e = cc

-- an element that is read is spelled at the front
found_element : (at : ℕ) (octets : List ℕ) (found : Element × List ℕ) → element_at at octets ≡ Ok found → Found octets found
found_element at [] found e = cc
found_element at (kind ∷ octets) found e =
    elim (chosen (not (is_fixed kind)) _ _ _ e) [
      | inl sized ↦ found_sized at kind octets found (not-true _ sized.0) sized.1
      | inr fixed ↦ elim (chosen (is_known_fixed kind) _ _ _ fixed.1) [
        | inl known ↦ found_fixed at kind octets found (not-false _ fixed.0) known.0 known.1
        | inr unknown ↦ cc (unknown.1)
      ]
    ]

same_ok : (read : Result (Element × List ℕ) ElementFault) (a b : Element × List ℕ) → read ≡ Ok a → a ≡ b → read ≡ Ok b
same_ok read a b e same = e ∙ ap Ok same

-- an element that is spelled at the front is read
element_again : (at : ℕ) (element : Element) (front rest : List ℕ) → SpellsElement element front → element_at at (front ++ rest) ≡ Ok (element, rest)
element_again at element front rest (inl spells) =
    let kind = element.kind in
    ap (λ (octets : List ℕ). element_at at (octets ++ rest)) spells.spelled
    ∙ ap (λ (b : Bool). cond (not b) (sized_at at kind (spells.octet ∷ rest)) (cond (is_known_fixed kind) (fixed_at at kind (spells.octet ∷ rest)) (Err (UnknownFixed kind at)))) spells.fixed
    ∙ ap (λ (b : Bool). cond b (fixed_at at kind (spells.octet ∷ rest)) (Err (UnknownFixed kind at))) spells.known
    ∙ ap (λ (value : List ℕ). Ok (record { kind = kind; value = value }, rest)) (sym spells.value)
element_again at element front rest (inr spells) =
    let kind = element.kind in
    let octets = element.value ++ rest in
    let uncut : nat_lt (length octets) (two_octets spells.high spells.low) ≡ false = le-ltb _ _ (omega (arith, length-append element.value rest, spells.stated)) in
    ap (λ (octets : List ℕ). element_at at (octets ++ rest)) spells.spelled
    ∙ ap (λ (b : Bool). cond (not b) (sized_at at kind (spells.high ∷ spells.low ∷ octets)) (cond (is_known_fixed kind) (fixed_at at kind (spells.high ∷ spells.low ∷ octets)) (Err (UnknownFixed kind at)))) spells.sized
    ∙ ap (λ (b : Bool). cond b (Err (Overrun at)) (Ok (record { kind = kind; value = take (two_octets spells.high spells.low) octets }, drop (two_octets spells.high spells.low) octets))) uncut
    ∙ ap (λ (n : ℕ). Ok (record { kind = kind; value = take n octets }, drop n octets)) (sym spells.stated)
    ∙ ap (λ (p : List ℕ). Ok (record { kind = kind; value = p }, drop (length element.value) octets)) (take-append_seam element.value rest)
    ∙ ap (λ (p : List ℕ). Ok (element, p)) (drop-append_seam element.value rest)

-- elements that are spelled at the front stand before what is read of the rest
pub elements_again : (body : List ℕ) (elements : List Element) (octets : List ℕ) → SpellElements elements octets → left body octets ≡ Ok elements
elements_again body [] octets spelled = ap (left body) spelled ∙ left_nothing body
elements_again body (element ∷ elements) octets (front, rest, whole, spelled, others) =
    left_element body octets element rest (ap (element_at (length body - length octets)) whole ∙ element_again (length body - length octets) element front rest spelled)
    ∙ ap (before element) (elements_again body elements rest others)

-- what was read first, and what was read then
record Then (read : Result (Element × List ℕ) ElementFault) (following : List ℕ → Result (List Element) ElementFault) (elements : List Element) : Type 0 where
  first : Element
  rest : List ℕ
  others : List Element
  found : read ≡ Ok (first, rest)
  followed : following rest ≡ Ok others
  all : first ∷ others ≡ elements

ok_is : (a b : List Element) → ◌≡◌ {A = Result (List Element) ElementFault} (Ok a) (Ok b) → a ≡ b
ok_is a b e = cc

then_before : (found : Element × List ℕ) (following : List ℕ → Result (List Element) ElementFault) (behind : Result (List Element) ElementFault) (elements : List Element) →
    following found.1 ≡ behind → before found.0 behind ≡ Ok elements → Then (Ok found) following elements
then_before found following (Ok others) elements followed e =
    record { first = found.0; rest = found.1; others = others; found = refl; followed = followed; all = ok_is (found.0 ∷ others) elements e }
then_before found following (Err fault) elements followed e = cc

then_of : (read : Result (Element × List ℕ) ElementFault) (following : List ℕ → Result (List Element) ElementFault) (elements : List Element) → and_then read following ≡ Ok elements → Then read following elements
then_of (Ok found) following elements e = then_before found following (following found.1) elements refl e
then_of (Err fault) following elements e = cc

-- elements that are read are spelled
spelled_left : (most total : ℕ) (octets : List ℕ) (elements : List Element) → length octets ≤ most → elements_left most total octets ≡ Ok elements → SpellElements elements octets
unfolding elements_left
spelled_left most total [] elements within e =
    subst (λ (es : List Element). SpellElements es []) (ok_is [] elements e) refl
spelled_left zero total (kind ∷ octets) elements within e = absurd (omega arith)
spelled_left (suc most) total (kind ∷ octets) elements within e =
    let then = then_of (element_at (total - length (kind ∷ octets)) (kind ∷ octets)) (elements_left most total) elements e in
    let found = found_element (total - length (kind ∷ octets)) (kind ∷ octets) (then.first, then.rest) then.found in
    let less : length then.rest ≤ most = omega (arith, shorter (total - length (kind ∷ octets)) (kind ∷ octets) (then.first, then.rest) then.found) in
    subst (λ (es : List Element). SpellElements es (kind ∷ octets)) then.all
    (found.front, then.rest, found.whole, found.spelled, spelled_left most total then.rest then.others less then.followed)

pub spelled_elements : (body : List ℕ) (elements : List Element) → elements_in body ≡ Ok elements → SpellElements elements body
spelled_elements body elements e = spelled_left (length body) (length body) body elements (omega arith) e

-- FAULTS

-- a faulty element at the front
abbrev pub IsFaulty : ElementFault → ℕ → List ℕ → Type 0
IsFaulty (Overrun place) at octets = (place ≡ at) × RunsPast octets
IsFaulty (UnknownFixed kind place) at octets = (place ≡ at) × IsUnknown kind octets

fault_is : (at : ℕ) (octets : List ℕ) (a b : ElementFault) → ◌≡◌ {A = Result (Element × List ℕ) ElementFault} (Err a) (Err b) → IsFaulty a at octets → IsFaulty b at octets
fault_is at octets a b e faulty = let same : a ≡ b = cc in subst (λ (f : ElementFault). IsFaulty f at octets) same faulty

-- what is refused at the front is faulty
faulty_fixed : (at kind : ℕ) (octets : List ℕ) (fault : ElementFault) → is_fixed kind ≡ true → is_known_fixed kind ≡ true → fixed_at at kind octets ≡ Err fault → IsFaulty fault at (kind ∷ octets)
faulty_fixed at kind [] fault fixed known e = fault_is at (kind ∷ []) (Overrun at) fault e (refl, inl (fixed, known, refl))
faulty_fixed at kind (octet ∷ rest) fault fixed known e = cc

faulty_sized : (at kind : ℕ) (octets : List ℕ) (fault : ElementFault) → is_fixed kind ≡ false → sized_at at kind octets ≡ Err fault → IsFaulty fault at (kind ∷ octets)
faulty_sized at kind [] fault sized e = fault_is at (kind ∷ []) (Overrun at) fault e (refl, inr (sized, tt))
faulty_sized at kind (high ∷ []) fault sized e = fault_is at (kind ∷ high ∷ []) (Overrun at) fault e (refl, inr (sized, tt))
faulty_sized at kind (high ∷ low ∷ octets) fault sized e =
    elim (chosen (nat_lt (length octets) (two_octets high low)) _ _ _ e) [
      | inl cut ↦ fault_is at (kind ∷ high ∷ low ∷ octets) (Overrun at) fault cut.1 (refl, inr (sized, ltb-true _ _ cut.0))
      | inr whole ↦ cc (whole.1)
    ]

faulty_element : (at kind : ℕ) (octets : List ℕ) (fault : ElementFault) → element_at at (kind ∷ octets) ≡ Err fault → IsFaulty fault at (kind ∷ octets)
faulty_element at kind octets fault e =
    elim (chosen (not (is_fixed kind)) _ _ _ e) [
      | inl sized ↦ faulty_sized at kind octets fault (not-true _ sized.0) sized.1
      | inr fixed ↦ elim (chosen (is_known_fixed kind) _ _ _ fixed.1) [
        | inl known ↦ faulty_fixed at kind octets fault (not-false _ fixed.0) known.0 known.1
        | inr unknown ↦ fault_is at (kind ∷ octets) (UnknownFixed kind at) fault unknown.1 (refl, (refl, not-false _ fixed.0, unknown.0))
      ]
    ]

-- what is faulty is refused
refused_fixed : (at kind : ℕ) (octets : List ℕ) → octets ≡ [] → fixed_at at kind octets ≡ Err (Overrun at)
refused_fixed at kind [] e = refl
refused_fixed at kind (octet ∷ rest) e = cc

by_tests : (at kind : ℕ) (octets : List ℕ) (fixed known : Bool) → is_fixed kind ≡ fixed → is_known_fixed kind ≡ known →
    element_at at (kind ∷ octets) ≡ cond (not fixed) (sized_at at kind octets) (cond known (fixed_at at kind octets) (Err (UnknownFixed kind at)))
by_tests at kind octets fixed known is_f is_k =
    ap (λ (b : Bool). cond (not b) (sized_at at kind octets) (cond (is_known_fixed kind) (fixed_at at kind octets) (Err (UnknownFixed kind at)))) is_f
    ∙ ap (λ (b : Bool). cond (not fixed) (sized_at at kind octets) (cond b (fixed_at at kind octets) (Err (UnknownFixed kind at)))) is_k

by_length : (at kind : ℕ) (octets : List ℕ) → is_fixed kind ≡ false → element_at at (kind ∷ octets) ≡ sized_at at kind octets
by_length at kind octets sized =
    ap (λ (b : Bool). cond (not b) (sized_at at kind octets) (cond (is_known_fixed kind) (fixed_at at kind octets) (Err (UnknownFixed kind at)))) sized

refused_overrun : (at : ℕ) (octets : List ℕ) → RunsPast octets → element_at at octets ≡ Err (Overrun at)
refused_overrun at [] faulty = absurd faulty
refused_overrun at (kind ∷ octets) (inl (fixed, known, none)) = by_tests at kind octets true true fixed known ∙ refused_fixed at kind octets none
refused_overrun at (kind ∷ []) (inr (sized, cut)) = by_length at kind [] sized
refused_overrun at (kind ∷ high ∷ []) (inr (sized, cut)) = by_length at kind (high ∷ []) sized
refused_overrun at (kind ∷ high ∷ low ∷ octets) (inr (sized, cut)) =
    by_length at kind (high ∷ low ∷ octets) sized
    ∙ ap (λ (b : Bool). cond b (Err (Overrun at)) (Ok (record { kind = kind; value = take (two_octets high low) octets }, drop (two_octets high low) octets))) (lt-ltb _ _ cut)

refused_unknown : (at kind : ℕ) (octets : List ℕ) → IsUnknown kind octets → element_at at octets ≡ Err (UnknownFixed kind at)
refused_unknown at kind [] faulty = absurd faulty
refused_unknown at kind (first ∷ octets) (same, fixed, unknown) =
    ap (λ (k : ℕ). element_at at (k ∷ octets)) same ∙ by_tests at kind octets true false fixed unknown

-- the first fault of what is left from a place on
abbrev pub FaultFrom : ℕ → ElementFault → List ℕ → Type 0
FaultFrom start (Overrun at) octets = (n : ℕ) × (at ≡ start + n) × FaultyAt RunsPast n octets
FaultFrom start (UnknownFixed kind at) octets = (n : ℕ) × (at ≡ start + n) × FaultyAt (IsUnknown kind) n octets

-- an element in front of the elements in front of a faulty one
further : (Faulty : List ℕ → Type 0) (n : ℕ) (element : Element) (front octets rest : List ℕ) → octets ≡ front ++ rest → SpellsElement element front →
    FaultyAt Faulty n rest → FaultyAt Faulty (length front + n) octets
further Faulty n element front octets rest whole spelled found =
    record {
      elements = element ∷ found.elements;
      front = front ++ found.front;
      rest = found.rest;
      whole = whole ∙ ap (λ (r : List ℕ). front ++ r) found.whole ∙ sym (append_assoc front found.front found.rest);
      place = omega (arith, found.place, length-append front found.front);
      spelled = (front, found.front, refl, spelled, found.spelled);
      faulty = found.faulty;
    }

fault_further : (start next : ℕ) (fault : ElementFault) (element : Element) (front octets rest : List ℕ) → octets ≡ front ++ rest → SpellsElement element front → next ≡ start + length front →
    FaultFrom next fault rest → FaultFrom start fault octets
fault_further start next (Overrun at) element front octets rest whole spelled step (n, place, found) =
    (length front + n, omega arith, further RunsPast n element front octets rest whole spelled found)
fault_further start next (UnknownFixed kind at) element front octets rest whole spelled step (n, place, found) =
    (length front + n, omega arith, further (IsUnknown kind) n element front octets rest whole spelled found)

fault_here : (start : ℕ) (fault : ElementFault) (octets : List ℕ) → IsFaulty fault start octets → FaultFrom start fault octets
fault_here start (Overrun at) octets (place, faulty) = (0, omega arith, record { elements = []; front = []; rest = octets; whole = refl; place = refl; spelled = refl; faulty = faulty })
fault_here start (UnknownFixed kind at) octets (place, faulty) = (0, omega arith, record { elements = []; front = []; rest = octets; whole = refl; place = refl; spelled = refl; faulty = faulty })

-- a fault stands at the front, or behind what was read there
Failed : Result (Element × List ℕ) ElementFault → (List ℕ → Result (List Element) ElementFault) → ElementFault → Type 0
Failed read following fault = (read ≡ Err fault) ⊎ ((found : Element × List ℕ) × (read ≡ Ok found) × (following found.1 ≡ Err fault))

failed_before : (found : Element × List ℕ) (following : List ℕ → Result (List Element) ElementFault) (behind : Result (List Element) ElementFault) (fault : ElementFault) →
    following found.1 ≡ behind → before found.0 behind ≡ Err fault → Failed (Ok found) following fault
unfolding Failed
failed_before found following (Ok others) fault followed e = cc
failed_before found following (Err other) fault followed e = let same : other ≡ fault = cc in inr (found, refl, followed ∙ ap Err same)

failed_of : (read : Result (Element × List ℕ) ElementFault) (following : List ℕ → Result (List Element) ElementFault) (fault : ElementFault) → and_then read following ≡ Err fault → Failed read following fault
unfolding Failed
failed_of (Ok found) following fault e = failed_before found following (following found.1) fault refl e
failed_of (Err other) following fault e = let same : other ≡ fault = cc in inl (ap Err same)

faults_left : (most total : ℕ) (octets : List ℕ) (fault : ElementFault) → length octets ≤ most → length octets ≤ total → elements_left most total octets ≡ Err fault → FaultFrom (total - length octets) fault octets
unfolding elements_left Failed
faults_left most total [] fault within among e = cc
faults_left zero total (kind ∷ octets) fault within among e = absurd (omega arith)
faults_left (suc most) total (kind ∷ octets) fault within among e =
    elim (failed_of (element_at (total - length (kind ∷ octets)) (kind ∷ octets)) (elements_left most total) fault e) [
      | inl here ↦ fault_here (total - length (kind ∷ octets)) fault (kind ∷ octets) (faulty_element (total - length (kind ∷ octets)) kind octets fault here)
      | inr behind ↦
          let first = found_element (total - length (kind ∷ octets)) (kind ∷ octets) behind.0 behind.1 in
          let less : length behind.0.1 ≤ most = omega (arith, shorter (total - length (kind ∷ octets)) (kind ∷ octets) behind.0 behind.1) in
          let lengths : length (kind ∷ octets) ≡ length first.front + length behind.0.1 = ap length first.whole ∙ length-append first.front behind.0.1 in
          fault_further (total - length (kind ∷ octets)) (total - length behind.0.1) fault behind.0.0 first.front (kind ∷ octets) behind.0.1 first.whole first.spelled (omega (arith, lengths))
          (faults_left most total behind.0.1 fault less (omega (arith, lengths)) behind.2)
    ]

-- from the front of a body on
fault_of_all : (fault : ElementFault) (body : List ℕ) → FaultFrom 0 fault body → IsFirstFault fault body
fault_of_all (Overrun at) body (n, place, found) =
    record { elements = found.elements; front = found.front; rest = found.rest; whole = found.whole; place = omega (arith, found.place); spelled = found.spelled; faulty = found.faulty }
fault_of_all (UnknownFixed kind at) body (n, place, found) =
    record { elements = found.elements; front = found.front; rest = found.rest; whole = found.whole; place = omega (arith, found.place); spelled = found.spelled; faulty = found.faulty }

-- a body that isn't read has the fault
pub first_fault : (body : List ℕ) (fault : ElementFault) → elements_in body ≡ Err fault → IsFirstFault fault body
first_fault body fault e =
    fault_of_all fault body (subst (λ (n : ℕ). FaultFrom n fault body) (let none : length body - length body ≡ 0 = omega arith in none) (faults_left (length body) (length body) body fault (omega arith) (omega arith) e))

-- elements in front of a faulty one
fault_behind : (body : List ℕ) (elements : List Element) (octets front rest : List ℕ) (fault : ElementFault) → octets ≡ front ++ rest → SpellElements elements front → 0 < length rest →
    element_at (length body - length rest) rest ≡ Err fault → left body octets ≡ Err fault
fault_behind body [] octets front rest fault whole spelled some e =
    ap (left body) (whole ∙ ap (λ (f : List ℕ). f ++ rest) spelled) ∙ left_fault body rest fault some e
fault_behind body (element ∷ elements) octets front rest fault whole (first, more, parts, spelled, others) some e =
    let again : octets ≡ first ++ (more ++ rest) = whole ∙ ap (λ (f : List ℕ). f ++ rest) parts ∙ append_assoc first more rest in
    left_element body octets element (more ++ rest) (ap (element_at (length body - length octets)) again ∙ element_again (length body - length octets) element first (more ++ rest) spelled)
    ∙ ap (before element) (fault_behind body elements (more ++ rest) more rest fault refl others some e)

runs_past_some : (octets : List ℕ) → RunsPast octets → 0 < length octets
runs_past_some [] faulty = absurd faulty
runs_past_some (kind ∷ octets) faulty = omega arith

unknown_some : (kind : ℕ) (octets : List ℕ) → IsUnknown kind octets → 0 < length octets
unknown_some kind [] faulty = absurd faulty
unknown_some kind (first ∷ octets) faulty = omega arith

-- the place of what follows the front
place_behind : (body front rest : List ℕ) (at : ℕ) → body ≡ front ++ rest → at ≡ length front → length body - length rest ≡ at
place_behind body front rest at whole place = omega (arith, ap length whole, length-append front rest)

pub first_fault_again : (body : List ℕ) (fault : ElementFault) → IsFirstFault fault body → elements_in body ≡ Err fault
first_fault_again body (Overrun at) found =
    fault_behind body found.elements body found.front found.rest (Overrun at) found.whole found.spelled (runs_past_some found.rest found.faulty)
    (ap (λ (n : ℕ). element_at n found.rest) (place_behind body found.front found.rest at found.whole found.place) ∙ refused_overrun at found.rest found.faulty)
first_fault_again body (UnknownFixed kind at) found =
    fault_behind body found.elements body found.front found.rest (UnknownFixed kind at) found.whole found.spelled (unknown_some kind found.rest found.faulty)
    (ap (λ (n : ℕ). element_at n found.rest) (place_behind body found.front found.rest at found.whole found.place) ∙ refused_unknown at kind found.rest found.faulty)

-- SENT ELEMENTS

one_octet : (value : List ℕ) → length value ≡ 1 → (octet : ℕ) × (value ≡ octet ∷ [])
one_octet (octet ∷ []) one = (octet, refl)
one_octet _ one = absurd (omega arith)

sent_by : (fixed : Bool) (element : Element) → is_fixed element.kind ≡ fixed → MatchBool fixed (IsTrue (is_known_fixed element.kind) × (length element.value ≡ 1)) (length element.value ≤ 65535) →
    SpellsElement element (cond fixed (element.kind ∷ element.value) (element.kind ∷ length element.value / 256 ∷ length element.value % 256 ∷ element.value))
sent_by true element is sendable =
    let one = one_octet element.value sendable.1 in
    inl (record { octet = one.0; fixed = is; known = sendable.0; value = one.1; spelled = ap (λ (v : List ℕ). element.kind ∷ v) one.1 })
sent_by false element is sendable =
    inr (record { high = length element.value / 256; low = length element.value % 256; sized = is; stated = omega arith; spelled = refl })

-- an element that may be sent is spelled by its octets
pub sent_element : (element : Element) → IsSendable element → SpellsElement element (element_octets element.kind element.value)
sent_element element sendable = sent_by (is_fixed element.kind) element refl sendable

pub sent_elements : (elements : List Element) → AreSendable elements → SpellElements elements (octets_of elements)
sent_elements [] sendable = refl
sent_elements (element ∷ elements) sendable =
    (element_octets element.kind element.value, octets_of elements, refl, sent_element element sendable.0, sent_elements elements sendable.1)

-- A READING OF A BODY

pub reading_spells : (body : List ℕ) (read : Result (List Element) ElementFault) → read ≡ elements_in body → (elements : List Element) → (read ≡ Ok elements) ↔ SpellElements elements body
reading_spells body read is elements =
    (λ e. spelled_elements body elements (sym is ∙ e), λ spelled. is ∙ elements_again body elements body spelled)

pub reading_fails : (body : List ℕ) (read : Result (List Element) ElementFault) → read ≡ elements_in body → (fault : ElementFault) → (read ≡ Err fault) ↔ IsFirstFault fault body
reading_fails body read is fault =
    (λ e. first_fault body fault (sym is ∙ e), λ found. is ∙ first_fault_again body fault found)
