-- What is read from left to right is what the definitions say.
use Rattle.std.proofs.Common.{◌≡◌, ◌≢◌, ◌↔◌, ℕ, zero, suc, ◌+◌, ◌-◌, ◌<◌, ◌≤◌, ◌⊎◌, Bool, true, false, List, [], ◌∷◌, ◌++◌, length, take, Option, Some, None, Result, Ok, Err, is_ok, refl, sym, ap, subst, ◌∙◌, append_assoc, arith, inl, inr}
use Rattle.std.specs.List.{concat, AllByRecursion}
use Rattle.std.proofs.lemmas.Bool.{lt-ltb, le-ltb}
use Rattle.std.proofs.lemmas.List.{append-nil, take_at, drop_at, length-append, length-take-le}
use Rattle.gw_base.specs.declared.tag.Tag.{Tag}
use Rattle.ber_frame.specs.declared.fault.BerFault.{BerFault}
use Rattle.ber_frame.specs.declared.fault.BerKind.{BerKind}
use Rattle.ber_frame.specs.declared.fault.BerKind.TheVariants.{Trailing, TooDeep}
use Rattle.ber_frame.specs.Value.{are_over, IsInner, IsContents, HasParts, BerValue, IsOneValue}
use Rattle.ber_frame.specs.Faults.{fault_at, HeadFails, IsAllowed, AfterHead, InnerFails, ContentsFail, ValueFails, BerFails}
use Rattle.ber_frame.specs.Checked.{◌>>=◌, inner_values_at, contents_at, value_at, last, checked, is_one_value}
use Rattle.ber_frame.proofs.Heads.{IsOctets, head_reads, head_fails}
use Rattle.ber_frame.proofs.Values.{Fronted, value_decide, value_long, over_in_front}

abbrev pub Reader : Type 0
Reader = ℕ → List ℕ → Result (Tag × List ℕ) BerFault

abbrev pub read : Tag → List ℕ → Result (Tag × List ℕ) BerFault
read tag rest = Ok (tag, rest)

abbrev pub rest_is : List ℕ → Result (List ℕ) BerFault
rest_is rest = Ok rest

-- values are read where they stand in front
abbrev pub ReadsValues : (List ℕ → Type 0) → Reader → Type 0
ReadsValues IsValue value = (v : List ℕ) → IsValue v → (at : ℕ) (more : List ℕ) → (tag : Tag) × (value at (v ++ more) ≡ read tag more)

-- the first fault is told
abbrev pub TellsFaults : (ℕ → List ℕ → BerFault → Type 0) → Reader → Type 0
TellsFaults Fails value = (at : ℕ) (octets : List ℕ) (fault : BerFault) → Fails at octets fault → value at octets ≡ Err fault

abbrev AreLong : (List ℕ → Type 0) → Type 0
AreLong IsValue = (v : List ℕ) → IsValue v → 2 ≤ length v

-- ---- inner values

inner_over : (value : Reader) (endless : Bool) (limit at : ℕ) (octets : List ℕ) → length octets < limit → are_over endless octets ≡ true → inner_values_at value endless limit at octets ≡ Ok octets
unfolding inner_values_at
inner_over value endless zero at octets below over = absurd (omega arith)
inner_over value endless (suc limit) at octets below over = rw over refl

inner_fault : (value : Reader) (endless : Bool) (limit at : ℕ) (octets : List ℕ) (fault : BerFault) → length octets < limit → are_over endless octets ≡ false → value at octets ≡ Err fault
    → inner_values_at value endless limit at octets ≡ Err fault
unfolding inner_values_at
inner_fault value endless zero at octets fault below goes_on e = absurd (omega arith)
inner_fault value endless (suc limit) at octets fault below goes_on e = rw (goes_on, e) refl

inner_goes_on : (value : Reader) (endless : Bool) (limit at : ℕ) (v rest : List ℕ) (tag : Tag) → are_over endless (v ++ rest) ≡ false → value at (v ++ rest) ≡ read tag rest
    → inner_values_at value endless (suc limit) at (v ++ rest) ≡ inner_values_at value endless limit (at + length v) rest
unfolding inner_values_at
inner_goes_on value endless limit at v rest tag goes_on e =
    let there : at + (length (v ++ rest) - length rest) ≡ at + length v = omega (arith, length-append v rest) in
    rw (goes_on, e, there) refl

-- after so many inner values the reading comes to what it comes to from there on
inner_passes : (IsValue : List ℕ → Type 0) (value : Reader) → ReadsValues IsValue value → AreLong IsValue
    → (endless : Bool) (values : List (List ℕ)) (at : ℕ) (rest : List ℕ) → AllByRecursion (IsInner IsValue endless) values
    → (outcome : Result (List ℕ) BerFault) → ((limit : ℕ) → length rest < limit → inner_values_at value endless limit (at + length (concat values)) rest ≡ outcome)
    → (limit : ℕ) → length (concat values ++ rest) < limit → inner_values_at value endless limit at (concat values ++ rest) ≡ outcome
inner_passes IsValue value reads long endless [] at rest are outcome from limit below =
    let same : at + 0 ≡ at = omega arith in
    subst (λ (n : ℕ). inner_values_at value endless limit n rest ≡ outcome) same (from limit below)
inner_passes IsValue value reads long endless (v ∷ values) at rest are outcome from zero below = absurd (omega arith)
inner_passes IsValue value reads long endless (v ∷ values) at rest are outcome from (suc limit) below =
    let there : at + length (v ++ concat values) ≡ at + length v + length (concat values) = omega (arith, length-append v (concat values)) in
    let joined : (v ++ concat values) ++ rest ≡ v ++ (concat values ++ rest) = append_assoc v (concat values) rest in
    let shorter : length (concat values ++ rest) < limit = omega (arith, ap length joined, length-append v (concat values ++ rest), long v are.0.0) in
    let past : inner_values_at value endless limit (at + length v) (concat values ++ rest) ≡ outcome =
    inner_passes IsValue value reads long endless values (at + length v) rest are.1 outcome
    (subst (λ (n : ℕ). (l : ℕ) → length rest < l → inner_values_at value endless l n rest ≡ outcome) there from) limit shorter in
    let goes_on : are_over endless (v ++ (concat values ++ rest)) ≡ false = over_in_front endless v (concat values ++ rest) (long v are.0.0) ∙ are.0.1 in
    let first = reads v are.0.0 at (concat values ++ rest) in
    subst (λ (w : List ℕ). inner_values_at value endless (suc limit) at w ≡ outcome) (sym joined)
    (inner_goes_on value endless limit at v (concat values ++ rest) first.0 goes_on first.1 ∙ past)

inner_fails : (IsValue : List ℕ → Type 0) (Fails : ℕ → List ℕ → BerFault → Type 0) (value : Reader) → ReadsValues IsValue value → AreLong IsValue → TellsFaults Fails value
    → (endless : Bool) (at : ℕ) (octets : List ℕ) (fault : BerFault) → InnerFails IsValue Fails endless at octets fault
    → (limit : ℕ) → length octets < limit → inner_values_at value endless limit at octets ≡ Err fault
inner_fails IsValue Fails value reads long tells endless at octets fault h limit below =
    let whole : length (concat h.values ++ h.rest) < limit = omega (arith, ap length h.joined) in
    subst (λ (w : List ℕ). inner_values_at value endless limit at w ≡ Err fault) (sym h.joined)
    (inner_passes IsValue value reads long endless h.values at h.rest h.are_values (Err fault)
    (λ l less. inner_fault value endless l (at + length (concat h.values)) h.rest fault less h.goes_on (tells (at + length (concat h.values)) h.rest fault h.fails)) limit whole)

-- ---- contents

definite_read : (IsValue : List ℕ → Type 0) (value : Reader) → ReadsValues IsValue value → AreLong IsValue
    → (at : ℕ) (values : List (List ℕ)) (contents : List ℕ) → AllByRecursion (IsInner IsValue false) values → contents ≡ concat values
    → inner_values_at value false (suc (length contents)) at contents ≡ rest_is []
definite_read IsValue value reads long at values contents are joined =
    let whole : concat values ++ [] ≡ contents = append-nil (concat values) ∙ sym joined in
    let below : length (concat values ++ []) < suc (length contents) = omega (arith, ap length whole) in
    subst (λ (w : List ℕ). inner_values_at value false (suc (length contents)) at w ≡ rest_is []) whole
    (inner_passes IsValue value reads long false values at [] are (rest_is []) (λ l less. inner_over value false l (at + length (concat values)) [] less refl) (suc (length contents)) below)

endless_read : (IsValue : List ℕ → Type 0) (value : Reader) → ReadsValues IsValue value → AreLong IsValue
    → (at : ℕ) (values : List (List ℕ)) (contents more : List ℕ) → AllByRecursion (IsInner IsValue true) values → contents ≡ concat values ++ 0 ∷ 0 ∷ []
    → inner_values_at value true (suc (length (contents ++ more))) at (contents ++ more) ≡ rest_is (0 ∷ 0 ∷ more)
endless_read IsValue value reads long at values contents more are joined =
    let whole : concat values ++ (0 ∷ 0 ∷ more) ≡ contents ++ more = sym (append_assoc (concat values) (0 ∷ 0 ∷ []) more) ∙ ap (λ (c : List ℕ). c ++ more) (sym joined) in
    let below : length (concat values ++ (0 ∷ 0 ∷ more)) < suc (length (contents ++ more)) = omega (arith, ap length whole) in
    subst (λ (w : List ℕ). inner_values_at value true (suc (length (contents ++ more))) at w ≡ rest_is (0 ∷ 0 ∷ more)) whole
    (inner_passes IsValue value reads long true values at (0 ∷ 0 ∷ more) are (rest_is (0 ∷ 0 ∷ more))
    (λ l less. inner_over value true l (at + length (concat values)) (0 ∷ 0 ∷ more) less refl) (suc (length (contents ++ more))) below)

sized_read : (value : Reader) (start at : ℕ) (constructed : Bool) (contents more : List ℕ) → constructed ≡ false
    → contents_at value start at constructed (Some (length contents)) (contents ++ more) ≡ rest_is more
sized_read value start at true contents more is = absurd cc
sized_read value start at false contents more is =
    let there : length contents ≤ length (contents ++ more) = omega (arith, length-append contents more) in
    rw (le-ltb (length (contents ++ more)) (length contents) there, drop_at contents more (length contents) refl) refl

contents_read : (IsValue : List ℕ → Type 0) (value : Reader) → ReadsValues IsValue value → AreLong IsValue
    → (start at : ℕ) (constructed : Bool) (size : Option ℕ) (contents more : List ℕ) → IsContents IsValue constructed size contents
    → contents_at value start at constructed size (contents ++ more) ≡ rest_is more
contents_read IsValue value reads long start at false None contents more h = absurd h
contents_read IsValue value reads long start at false (Some size) contents more h =
    subst (λ (n : ℕ). contents_at value start at false (Some n) (contents ++ more) ≡ rest_is more) h (sized_read value start at false contents more refl)
contents_read IsValue value reads long start at true None contents more h =
    rw (endless_read IsValue value reads long at h.0 contents more h.1 h.2) refl
contents_read IsValue value reads long start at true (Some size) contents more h =
    let there : length contents ≤ length (contents ++ more) = omega (arith, length-append contents more) in
    subst (λ (n : ℕ). contents_at value start at true (Some n) (contents ++ more) ≡ rest_is more) h.0
    (rw (le-ltb (length (contents ++ more)) (length contents) there, take_at contents more (length contents) refl, drop_at contents more (length contents) refl, definite_read IsValue value reads long at h.1 contents h.2 h.3) refl)

contents_fail : (IsValue : List ℕ → Type 0) (Fails : ℕ → List ℕ → BerFault → Type 0) (value : Reader) → ReadsValues IsValue value → AreLong IsValue → TellsFaults Fails value
    → (start at : ℕ) (constructed : Bool) (size : Option ℕ) (octets : List ℕ) (fault : BerFault) → ContentsFail IsValue Fails start at constructed size octets fault
    → contents_at value start at constructed size octets ≡ Err fault
contents_fail IsValue Fails value reads long tells start at constructed None octets fault h =
    rw (inner_fails IsValue Fails value reads long tells true at octets fault h (suc (length octets)) (omega arith)) refl
contents_fail IsValue Fails value reads long tells start at false (Some size) octets fault h =
    let short : length octets < size = h.0 in
    rw (lt-ltb (length octets) size short, h.1) refl
contents_fail IsValue Fails value reads long tells start at true (Some size) octets fault (inl h) =
    let short : length octets < size = h.0 in
    rw (lt-ltb (length octets) size short, h.1) refl
contents_fail IsValue Fails value reads long tells start at true (Some size) octets fault (inr h) =
    let there : size ≤ length octets = h.0 in
    let below : length (take size octets) < suc size = omega (arith, length-take-le size octets there) in
    rw (le-ltb (length octets) size there, inner_fails IsValue Fails value reads long tells false at (take size octets) fault h.1 (suc size) below) refl

-- ---- values

pub is_allowed : (IsValue : List ℕ → Type 0) (constructed : Bool) (size : Option ℕ) (contents : List ℕ) →
    IsContents IsValue constructed size contents → IsAllowed constructed size
is_allowed IsValue false None contents h = absurd h
is_allowed IsValue true None contents h = refl
is_allowed IsValue constructed (Some size) contents h = tt

abbrev pub tagged : Tag → Result (List ℕ) BerFault → Result (Tag × List ℕ) BerFault
tagged tag (Ok rest) = Ok (tag, rest)
tagged tag (Err fault) = Err fault

all_cases : (tag : Tag) (outcome : Result (List ℕ) BerFault) → (outcome >>= λ rest. read tag rest) ≡ tagged tag outcome
all_cases tag (Ok rest) = refl
all_cases tag (Err fault) = refl

pub reads_after_head : (levels at : ℕ) (octets : List ℕ) (tag : Tag) (size : Option ℕ) (head rest : List ℕ) →
    AfterHead octets tag size head rest
    → (outcome : Result (List ℕ) BerFault) → contents_at (value_at levels) at (at + length head) tag.constructed size rest ≡ outcome
    → value_at (suc levels) at octets ≡ tagged tag outcome
unfolding value_at
reads_after_head levels at octets tag size head rest h outcome e =
    let from : at + (length octets - length rest) ≡ at + length head = omega (arith, ap length h.joined, length-append head rest) in
    rw (head_reads octets tag size head rest h, from, e) (all_cases tag outcome)

holds_read : (levels : ℕ) → ReadsValues (IsOneValue levels) (value_at levels) → (at : ℕ) (octets more : List ℕ) (tag : Tag) → HasParts (IsOneValue levels) octets tag
    → value_at (suc levels) at (octets ++ more) ≡ read tag more
holds_read levels reads at octets more tag h =
    let parts : octets ++ more ≡ h.head ++ (h.contents ++ more) = ap (λ (x : List ℕ). x ++ more) h.joined ∙ append_assoc h.head h.contents more in
    let after : AfterHead (octets ++ more) tag h.size h.head (h.contents ++ more) = record { joined = parts; is_head = h.is_head; is_allowed = is_allowed (IsOneValue levels) tag.constructed h.size h.contents h.is_contents } in
    reads_after_head levels at (octets ++ more) tag h.size h.head (h.contents ++ more) after (rest_is more)
    (contents_read (IsOneValue levels) (value_at levels) reads (λ v it. value_long levels v it.0 it.1) at (at + length h.head) tag.constructed h.size h.contents more h.is_contents)

value_reads : (levels : ℕ) → ReadsValues (IsOneValue levels) (value_at levels)
unfolding BerValue
value_reads zero v is at more = absurd is.1
value_reads (suc levels) v is at more = (is.0, holds_read levels (value_reads levels) at v more is.0 is.1)

pub head_wrong : (levels at : ℕ) (octets : List ℕ) (kind : BerKind) → HeadFails octets kind → value_at levels at octets
    ≡ Err (fault_at at kind)
unfolding value_at
head_wrong zero at octets kind h = rw (head_fails octets kind h) refl
head_wrong (suc levels) at octets kind h = rw (head_fails octets kind h) refl

pub deep_wrong : (at : ℕ) (octets : List ℕ) (tag : Tag) (size : Option ℕ) (head rest : List ℕ) →
    AfterHead octets tag size head rest → value_at zero at octets ≡ Err (fault_at at TooDeep)
unfolding value_at
deep_wrong at octets tag size head rest h = rw (head_reads octets tag size head rest h) refl

value_fails : (levels : ℕ) → TellsFaults (ValueFails levels) (value_at levels)
unfolding ValueFails
value_fails zero at octets fault (inl h) = head_wrong zero at octets h.0 h.1 ∙ ap (λ (f : BerFault). Err f) (sym h.2)
value_fails zero at octets fault (inr h) = deep_wrong at octets h.0 h.1 h.2 h.3 h.4 ∙ ap (λ (f : BerFault). Err f) (sym h.5)
value_fails (suc levels) at octets fault (inl h) = head_wrong (suc levels) at octets h.0 h.1 ∙ ap (λ (f : BerFault). Err f) (sym h.2)
value_fails (suc levels) at octets fault (inr h) =
    reads_after_head levels at octets h.0 h.1 h.2 h.3 h.4 (Err fault)
    (contents_fail (IsOneValue levels) (ValueFails levels) (value_at levels) (value_reads levels) (λ v it. value_long levels v it.0 it.1) (value_fails levels)
    at (at + length h.2) h.0.constructed h.1 h.3 fault h.5)

abbrev pub ok : Tag → Result Tag BerFault
ok tag = Ok tag

abbrev pub err : BerFault → Result Tag BerFault
err fault = Err fault

pub followed : (tag : Tag) (at : ℕ) (rest : List ℕ) → rest ≢ [] → last tag at rest ≡ err (fault_at at Trailing)
followed tag at [] some = absurd (some refl)
followed tag at (a ∷ rest) some = refl

-- ---- the whole octets

-- what is answered where a value stands in front
front_checked : (value rest : List ℕ) (tag : Tag) → BerValue 32 value tag → checked (value ++ rest) ≡ last tag (length value) rest
unfolding BerValue checked
front_checked value rest tag is =
    let there : length (value ++ rest) - length rest ≡ length value = omega (arith, length-append value rest) in
    rw (holds_read 31 (value_reads 31) 0 value rest tag is, there) refl

pub checked_right : (octets : List ℕ) (tag : Tag) → BerValue 32 octets tag → checked octets ≡ ok tag
checked_right octets tag is = subst (λ (w : List ℕ). checked w ≡ ok tag) (append-nil octets) (front_checked octets [] tag is)

pub checked_wrong : (octets : List ℕ) (fault : BerFault) → BerFails octets fault → checked octets ≡ err fault
unfolding checked
checked_wrong octets fault (inl h) = rw (value_fails 32 0 octets fault h) refl
checked_wrong octets fault (inr h) =
    ap checked h.2 ∙ front_checked h.0 h.1 h.3.0 h.3.1 ∙ followed h.3.0 (length h.0) h.1 h.4 ∙ ap err (sym h.5)

-- every octets are a value or have a first fault
abbrev Judged : List ℕ → Type 0
Judged octets = ((tag : Tag) × BerValue 32 octets tag) ⊎ ((fault : BerFault) × BerFails octets fault)

judge_rest : (octets rest : List ℕ) (f : Fronted (IsOneValue 32) octets) → f.rest ≡ rest → Judged octets
judge_rest octets [] f e =
    inl (
      f.is_value.0,
      subst (λ (w : List ℕ). BerValue 32 w f.is_value.0)
          (sym (f.joined ∙ ap (λ (r : List ℕ). f.value ++ r) e ∙ append-nil f.value)) f.is_value.1,
    )
judge_rest octets (a ∷ rest) f e =
    let some : f.rest ≢ [] = λ none. absurd (cc (e, none)) in
    inr (fault_at (length f.value) Trailing, inr (f.value, f.rest, f.joined, f.is_value, some, refl))

pub judge : (octets : List ℕ) → IsOctets octets → Judged octets
judge octets small =
    elim (value_decide 32 0 octets small) [
      | inl f ↦ judge_rest octets f.rest f refl
      | inr u ↦ inr (u.fault, inl u.fails)
    ]

-- what is answered where octets are right, and where they fail, is answered there alone,
-- since they do the one or the other
pub decided : {P : Tag → Type 0} {Q : BerFault → Type 0} (result : Result Tag BerFault) →
    ((tag : Tag) × P tag) ⊎ ((fault : BerFault) × Q fault)
    → ((tag : Tag) → P tag → result ≡ ok tag) → ((fault : BerFault) → Q fault → result ≡ err fault)
    → ((tag : Tag) → (result ≡ ok tag) ↔ P tag) × ((fault : BerFault) → (result ≡ err fault) ↔ Q fault)
decided {P} {Q} result (inl is) right wrong = (
  λ tag. (λ e. let same : is.0 ≡ tag = cc (right is.0 is.1, e) in subst P same is.1, right tag),
  λ fault. (λ e. absurd (cc (right is.0 is.1, e)), wrong fault),
)
decided {P} {Q} result (inr bad) right wrong = (
  λ tag. (λ e. absurd (cc (wrong bad.0 bad.1, e)), right tag),
  λ fault. (λ e. let same : bad.0 ≡ fault = cc (wrong bad.0 bad.1, e) in subst Q same bad.1, wrong fault),
)

pub checked_is : (octets : List ℕ) → IsOctets octets → (tag : Tag) → (checked octets ≡ ok tag) ↔ BerValue 32 octets tag
checked_is octets small = (decided (checked octets) (judge octets small) (checked_right octets)
    (checked_wrong octets)).0

pub checked_fails : (octets : List ℕ) → IsOctets octets → (fault : BerFault) → (checked octets ≡ err fault) ↔ BerFails octets fault
checked_fails octets small = (decided (checked octets) (judge octets small) (checked_right octets)
    (checked_wrong octets)).1

pub one_value : (octets : List ℕ) → IsOctets octets → (is_one_value octets ≡ true) ↔ IsOneValue 32 octets
one_value octets small = (
  λ e. there (judge octets small) e,
  λ is. ap (λ (r : Result Tag BerFault). is_ok r)
      (checked_right octets is.0 is.1),
)
  where
    there : Judged octets → is_one_value octets ≡ true → IsOneValue 32 octets
    there (inl is) e = is
    there (inr bad) e = absurd (let never : is_ok (err bad.0)
        ≡ true = ap (λ (r : Result Tag BerFault). is_ok r) (sym (checked_wrong octets bad.0 bad.1)) ∙ e in cc)
