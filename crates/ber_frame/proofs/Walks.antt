-- The walk follows what is read from left to right: it passes a value that is read,
-- and stops at the fault that is told.
use Rattle.std.proofs.Common.{◌≡◌, ◌↔◌, ℕ, zero, suc, ◌+◌, ◌-◌, ◌<◌, ◌≤◌, ◌⊎◌, Bool, true, false, if◌then◌else◌, List, [], ◌∷◌, ◌++◌, length, take, drop, Option, Some, None, Result, Ok, Err, refl, sym, ap, subst, ◌∙◌, arith, inl, inr}
use Rattle.std.proofs.lemmas.Bool.{cases_lt, lt-ltb, le-ltb}
use Rattle.std.proofs.lemmas.List.{length-append, length-drop, length-take-le, take-append-drop}
use Rattle.gw_base.specs.declared.tag.Tag.{Tag}
use Rattle.ber_frame.specs.declared.fault.BerFault.{BerFault}
use Rattle.ber_frame.specs.declared.fault.BerKind.{BerKind}
use Rattle.ber_frame.specs.declared.fault.BerKind.TheVariants.{TooDeep}
use Rattle.ber_frame.specs.Value.{are_over, BerValue}
use Rattle.ber_frame.specs.Faults.{fault_at, HeadFails, AfterHead, BerFails}
use Rattle.ber_frame.specs.Checked.{◌>>=◌, inner_values_at, contents_at, value_at, last, checked}
use Rattle.ber_frame.specs.Walk.{Opened, Place, place, open_with, at_contents, with_tag, entered, closed, without_tag, step_from, after_step, follow, run, Fate, finish, Walks}
use Rattle.ber_frame.proofs.Heads.{IsOctets, IsOctets-back, IsOctets-front, Headed, head_decide, head_fails, head_reads}
use Rattle.ber_frame.proofs.Values.{end_left, head_long, nothing_left}
use Rattle.ber_frame.proofs.Checks.{Reader, checked_right, checked_wrong, decided, deep_wrong, err, head_wrong, judge, ok, reads_after_head, tagged}

-- ---- the fate of a place

pub fate_goes : (at : ℕ) (window : List ℕ) (o : Opened) (outer : List Opened) (q : Place) (outcome : Result Place BerFault) → step_from (place at window (o ∷ outer)) (o ∷ outer) ≡ Ok q → Fate q outcome → Fate (place at window (o ∷ outer)) outcome
unfolding run
fate_goes at window o outer q outcome step fate = record { steps = suc fate.steps; comes = rw step fate.comes }

pub fate_stops : (at : ℕ) (window : List ℕ) (o : Opened) (outer : List Opened) (fault : BerFault) → step_from (place at window (o ∷ outer)) (o ∷ outer) ≡ Err fault → Fate (place at window (o ∷ outer)) (Err fault)
unfolding run
fate_stops at window o outer fault step = record { steps = 1; comes = rw step refl }

pub fate_ends : (at : ℕ) (window : List ℕ) → Fate (place at window []) (Ok (place at window []))
unfolding run
fate_ends at window = record { steps = 1; comes = refl }

-- ---- steps

pub step_over : (at : ℕ) (window : List ℕ) (o : Opened) (outer : List Opened) → are_over o.endless window ≡ true → step_from (place at window (o ∷ outer)) (o ∷ outer) ≡ Ok (closed (place at window (o ∷ outer)) o outer)
unfolding step_from
step_over at window o outer over = rw over refl

pub step_into : (at : ℕ) (window : List ℕ) (o : Opened) (outer : List Opened) → are_over o.endless window ≡ false → step_from (place at window (o ∷ outer)) (o ∷ outer) ≡ without_tag (entered (place at window (o ∷ outer)))
unfolding step_from
step_into at window o outer goes_on = rw goes_on refl

-- ---- inner values

-- how the walk enters a value at this place, by what is read of the value
abbrev Enters : List Opened → ℕ → List ℕ → Result (Tag × List ℕ) BerFault → Type 0
Enters opened at octets (Ok x) =
    (q : Place) × (entered (place at octets opened) ≡ Ok (x.0, q)) × (length x.1 < length octets) × IsOctets x.1
    × ((outcome : Result Place BerFault) → Fate (place (at + (length octets - length x.1)) x.1 opened) outcome →
    Fate q outcome)
Enters opened at octets (Err fault) =
    (entered (place at octets opened) ≡ Err fault)
    ⊎ ((tag : Tag) × (q : Place) × (entered (place at octets opened) ≡ Ok (tag, q)) × Fate q (Err fault))

abbrev AreEntered : Reader → ℕ → Type 0
AreEntered value depth = (at : ℕ) (octets : List ℕ) (opened : List Opened) → IsOctets octets → length opened ≡ depth →
    Enters opened at octets (value at octets)

-- what the walk comes to where inner values begin, by what is read of them
abbrev Walked : Opened → List Opened → ℕ → List ℕ → Result (List ℕ) BerFault → Type 0
Walked o outer at octets (Ok rest) =
    (are_over o.endless rest ≡ true) × (length rest ≤ length octets) × IsOctets rest
    × ((outcome : Result Place BerFault) → Fate (place (at + (length octets - length rest)) rest (o ∷ outer)) outcome →
    Fate (place at octets (o ∷ outer)) outcome)
Walked o outer at octets (Err fault) = Fate (place at octets (o ∷ outer)) (Err fault)

-- a value in front, and those behind it
walked_more : (o : Opened) (outer : List Opened) (at : ℕ) (octets rest : List ℕ) (q : Place) →
    step_from (place at octets (o ∷ outer)) (o ∷ outer) ≡ Ok q → length rest < length octets
    → ((outcome : Result Place BerFault) → Fate (place (at + (length octets - length rest)) rest (o ∷ outer)) outcome →
    Fate q outcome)
    → (r : Result (List ℕ) BerFault) → Walked o outer (at + (length octets - length rest)) rest r →
    Walked o outer at octets r
walked_more o outer at octets rest q step shorter passes (Ok left) row =
    let there : at + (length octets - length left) ≡ at + (length octets - length rest) + (length rest - length left) =
    omega (arith, row.1) in (
      row.0,
      omega (arith, row.1),
      row.2,
      λ outcome fate. fate_goes at octets o outer q outcome step
          (passes outcome (row.3 outcome (subst (λ (n : ℕ). Fate (place n left (o ∷ outer)) outcome) there fate))),
    )
walked_more o outer at octets rest q step shorter passes (Err fault) row =
    fate_goes at octets o outer q (Err fault) step (passes (Err fault) row)

walked_step : (value : Reader) (o : Opened) (outer : List Opened) (limit at : ℕ) (octets : List ℕ) → IsOctets octets →
    length octets < suc limit
    → ((n : ℕ) (rest : List ℕ) → IsOctets rest → length rest < limit →
    Walked o outer n rest (inner_values_at value o.endless limit n rest))
    → (over : Bool) → are_over o.endless octets ≡ over → (r : Result (Tag × List ℕ) BerFault) →
    Enters (o ∷ outer) at octets r
    → Walked o outer at octets (if over then Ok octets else (r >>= λ first. inner_values_at value o.endless limit
    (at + (length octets - length first.1)) first.1))
walked_step value o outer limit at octets small below again true is r enters =
    let same : at + (length octets - length octets) ≡ at = omega arith in
    (is, omega arith, small, λ outcome fate. subst (λ (n : ℕ). Fate (place n octets (o ∷ outer)) outcome) same fate)
walked_step value o outer limit at octets small below again false is (Ok x) enters =
    walked_more o outer at octets x.1 enters.0 (step_into at octets o outer is ∙ ap without_tag enters.1) enters.2
    enters.4
    (inner_values_at value o.endless limit (at + (length octets - length x.1)) x.1)
    (again (at + (length octets - length x.1)) x.1 enters.3 (omega (arith, enters.2)))
walked_step value o outer limit at octets small below again false is (Err fault) enters = elim enters [
  | inl e ↦ fate_stops at octets o outer fault (step_into at octets o outer is ∙ ap without_tag e)
  | inr t ↦ fate_goes at octets o outer t.1 (Err fault) (step_into at octets o outer is ∙ ap without_tag t.2) t.3
]

are_walked : (value : Reader) (depth : ℕ) → AreEntered value depth → (o : Opened) (outer : List Opened) →
    length (o ∷ outer) ≡ depth
    → (limit at : ℕ) (octets : List ℕ) → IsOctets octets → length octets < limit →
    Walked o outer at octets (inner_values_at value o.endless limit at octets)
unfolding inner_values_at
are_walked value depth enter o outer deep zero at octets small below = absurd (omega arith)
are_walked value depth enter o outer deep (suc limit) at octets small below =
    walked_step value o outer limit at octets small below (λ n rest s b. are_walked value depth enter o outer deep
    limit n rest s b)
    (are_over o.endless octets) refl (value at octets) (enter at octets (o ∷ outer) small deep)

-- ---- contents

-- how the walk goes on behind a head, by what is read of the contents
abbrev Fills : List Opened → ℕ → List ℕ → Result Place BerFault → Result (List ℕ) BerFault → Type 0
Fills opened from octets enter (Ok rest) =
    (q : Place) × (enter ≡ Ok q) × (length rest ≤ length octets) × IsOctets rest
    × ((outcome : Result Place BerFault) → Fate (place (from + (length octets - length rest)) rest opened) outcome →
    Fate q outcome)
Fills opened from octets enter (Err fault) = (enter ≡ Err fault) ⊎ ((q : Place) × (enter ≡ Ok q) × Fate q (Err fault))

-- where the inner values are over, one step leads out of the value
fills_over : (endless : Bool) (after window : List ℕ) (opened : List Opened) (from : ℕ) (octets rest left : List ℕ)
    (past : ℕ)
    → Walked (open_with endless after) opened from window (Ok rest)
    → closed (place (from + (length window - length rest)) rest (open_with endless after ∷ opened))
    (open_with endless after) opened ≡ place past left opened
    → length left ≤ length octets → IsOctets left → past ≡ from + (length octets - length left)
    → Fills opened from octets (Ok (place from window (open_with endless after ∷ opened))) (Ok left)
fills_over endless after window opened from octets rest left past row is shorter small there = (
  place from window (open_with endless after ∷ opened),
  refl,
  shorter,
  small,
  λ outcome fate. row.3 outcome
      (fate_goes (from + (length window - length rest)) rest (open_with endless after) opened (place past left opened)
      outcome
      (step_over (from + (length window - length rest)) rest (open_with endless after) opened row.0 ∙
      ap (λ (q : Place). Ok q) is)
      (subst (λ (n : ℕ). Fate (place n left opened) outcome) (sym there) fate)),
)

endless_fills : (opened : List Opened) (from : ℕ) (octets : List ℕ) (r : Result (List ℕ) BerFault) →
    Walked (open_with true []) opened from octets r
    → Fills opened from octets (Ok (place from octets (open_with true [] ∷ opened))) (r >>= λ rest. Ok (drop 2 rest))
endless_fills opened from octets (Ok rest) row =
    let rest_is = end_left rest row.0 in
    fills_over true [] octets opened from octets rest (drop 2 rest) (from + (length octets - length rest) + 2) row refl
    (omega (arith, row.1, ap length rest_is)) (IsOctets-back (0 ∷ 0 ∷ []) (drop 2 rest) (subst IsOctets rest_is row.2))
    (omega (arith, row.1, ap length rest_is))
endless_fills opened from octets (Err fault) row = inr (place from octets (open_with true [] ∷ opened), refl, row)

definite_fills : (opened : List Opened) (from size : ℕ) (octets : List ℕ) → size ≤ length octets →
    IsOctets (drop size octets)
    → (r : Result (List ℕ) BerFault) → Walked (open_with false (drop size octets)) opened from (take size octets) r
    → Fills opened from octets (Ok (place from (take size octets) (open_with false (drop size octets) ∷ opened)))
    (r >>= λ rest. Ok (drop size octets))
definite_fills opened from size octets le small (Ok rest) row =
    fills_over false (drop size octets) (take size octets) opened from octets rest (drop size octets)
    (from + (length (take size octets) - length rest)) row refl (omega (arith, length-drop size octets)) small
    (omega (arith, ap length (nothing_left rest row.0), length-drop size octets, length-take-le size octets le))
definite_fills opened from size octets le small (Err fault) row =
    inr (place from (take size octets) (open_with false (drop size octets) ∷ opened), refl, row)

fills : (value : Reader) (depth : ℕ) → AreEntered value depth →
    (start from : ℕ) (constructed : Bool) (size : Option ℕ) (octets : List ℕ) (opened : List Opened)
    → IsOctets octets → suc (length opened) ≡ depth
    → Fills opened from octets (at_contents start from octets opened constructed size)
    (contents_at value start from constructed size octets)
fills value depth enter start from constructed None octets opened small deep =
    endless_fills opened from octets (inner_values_at value true (suc (length octets)) from octets)
    (are_walked value depth enter (open_with true []) opened deep (suc (length octets)) from octets small (omega arith))
fills value depth enter start from constructed (Some size) octets opened small deep =
    elim (cases_lt (length octets) size) [
      | inl lt ↦ cut constructed lt
      | inr le ↦ whole constructed le (subst IsOctets (sym (take-append-drop size octets)) small)
    ]
  where
    cut : (constructed : Bool) → length octets < size
        → Fills opened from octets (at_contents start from octets opened constructed (Some size))
        (contents_at value start from constructed (Some size) octets)
    cut true lt = rw (lt-ltb (length octets) size lt) (inl refl)
    cut false lt = rw (lt-ltb (length octets) size lt) (inl refl)

    whole : (constructed : Bool) → size ≤ length octets → IsOctets (take size octets ++ drop size octets)
        → Fills opened from octets (at_contents start from octets opened constructed (Some size))
        (contents_at value start from constructed (Some size) octets)
    whole true le parts =
        rw (le-ltb (length octets) size le)
        (definite_fills opened from size octets le (IsOctets-back (take size octets) (drop size octets) parts)
        (inner_values_at value false (suc size) from (take size octets))
        (are_walked value depth enter (open_with false (drop size octets)) opened deep (suc size) from
        (take size octets)
        (IsOctets-front (take size octets) (drop size octets) parts) (omega (arith, length-take-le size octets le))))
    whole false le parts =
        let there : from + (length octets - length (drop size octets)) ≡ from + size =
        omega (arith, length-drop size octets) in
        rw (le-ltb (length octets) size le) (
          place (from + size) (drop size octets) opened,
          refl,
          omega (arith, length-drop size octets),
          IsOctets-back (take size octets) (drop size octets) parts,
          λ outcome fate. subst (λ (n : ℕ). Fate (place n (drop size octets) opened) outcome) there fate,
        )

-- ---- values

-- what entering comes to, once the head is read
pub enters_so : (at : ℕ) (window : List ℕ) (opened : List Opened) (tag : Tag) (size : Option ℕ) (head rest : List ℕ) → AfterHead window tag size head rest → length opened < 32
    → entered (place at window opened) ≡ with_tag tag (at_contents at (at + length head) rest opened tag.constructed size)
unfolding entered
enters_so at window opened tag size head rest h room =
    let from : at + (length window - length rest) ≡ at + length head = omega (arith, ap length h.joined, length-append head rest) in
    rw (head_reads window tag size head rest h, lt-ltb (length opened) 32 room, from) refl

head_stops : (at : ℕ) (octets : List ℕ) (kind : BerKind) (opened : List Opened) → HeadFails octets kind →
    entered (place at octets opened) ≡ Err (fault_at at kind)
unfolding entered
head_stops at octets kind opened h = rw (head_fails octets kind h) refl

deep_stops : (at : ℕ) (octets : List ℕ) (tag : Tag) (size : Option ℕ) (head rest : List ℕ) (opened : List Opened) →
    AfterHead octets tag size head rest → length opened ≡ 32 → entered (place at octets opened)
    ≡ Err (fault_at at TooDeep)
unfolding entered
deep_stops at octets tag size head rest opened h deep =
    let full : 32 ≤ length opened = omega arith in
    rw (head_reads octets tag size head rest h, le-ltb (length opened) 32 full) refl

past_head : (opened : List Opened) (at : ℕ) (octets : List ℕ) (h : Headed octets) → length opened < 32 →
    (r : Result (List ℕ) BerFault)
    → Fills opened (at + length h.head) h.rest (at_contents at (at + length h.head) h.rest opened h.tag.constructed
    h.size) r
    → Enters opened at octets (tagged h.tag r)
past_head opened at octets h room (Ok rest) fill =
    let sizes = ap length h.after.joined in
    let sum = length-append h.head h.rest in
    let there : at + (length octets - length rest) ≡ at + length h.head + (length h.rest - length rest) =
    omega (arith, sizes, sum, fill.2) in (
      fill.0,
      enters_so at octets opened h.tag h.size h.head h.rest h.after room ∙ ap (with_tag h.tag) fill.1,
      omega (arith, sizes, sum, fill.2, head_long h.head h.tag h.size h.after.is_head),
      fill.3,
      λ outcome fate. fill.4 outcome (subst (λ (n : ℕ). Fate (place n rest opened) outcome) there fate),
    )
past_head opened at octets h room (Err fault) fill = elim fill [
  | inl e ↦ inl (enters_so at octets opened h.tag h.size h.head h.rest h.after room ∙ ap (with_tag h.tag) e)
  | inr t ↦ inr (
    h.tag,
    t.0,
    enters_so at octets opened h.tag h.size h.head h.rest h.after room ∙
        ap (with_tag h.tag) t.1,
    t.2,
  )
]

values_entered : (levels depth : ℕ) → depth + levels ≡ 32 → AreEntered (value_at levels) depth
values_entered zero depth deep at octets opened small here = elim (head_decide octets small) [
  | inl h ↦ subst (Enters opened at octets) (sym (deep_wrong at octets h.tag h.size h.head h.rest h.after))
      (inl (deep_stops at octets h.tag h.size h.head h.rest opened h.after (omega arith)))
  | inr u ↦ subst (Enters opened at octets) (sym (head_wrong zero at octets u.kind u.fails))
      (inl (head_stops at octets u.kind opened u.fails))
]
values_entered (suc levels) depth deep at octets opened small here = elim (head_decide octets small) [
  | inl h ↦
      let outcome = contents_at (value_at levels) at (at + length h.head) h.tag.constructed h.size h.rest in
      let below : suc depth + levels ≡ 32 = omega arith in
      subst (Enters opened at octets) (sym (reads_after_head levels at octets h.tag h.size h.head h.rest h.after
      outcome refl))
      (past_head opened at octets h (omega arith) outcome
      (fills (value_at levels) (suc depth) (values_entered levels (suc depth) below) at (at + length h.head)
      h.tag.constructed h.size h.rest opened
      (IsOctets-back h.head h.rest (subst IsOctets h.after.joined small)) (ap suc here)))
  | inr u ↦ subst (Enters opened at octets) (sym (head_wrong (suc levels) at octets u.kind u.fails))
      (inl (head_stops at octets u.kind opened u.fails))
]

-- ---- the whole walk

-- a walk comes to one end
run_once : (m n : ℕ) (p : Place) (a b : Result Place BerFault) → run m p ≡ Some a → run n p ≡ Some b → a ≡ b
unfolding run
run_once zero n p a b x y = absurd cc
run_once (suc m) zero p a b x y = absurd cc
run_once (suc m) (suc n) p a b x y = by p.opened x y (λ q u v. run_once m n q a b u v)
  where
    after : (r : Result Place BerFault) → after_step (run m) r ≡ Some a → after_step (run n) r ≡ Some b
        → ((q : Place) → run m q ≡ Some a → run n q ≡ Some b → a ≡ b) → a ≡ b
    after (Ok q) x y again = again q x y
    after (Err fault) x y again = cc

    by : (opened : List Opened) → follow (run m) p opened ≡ Some a → follow (run n) p opened ≡ Some b
        → ((q : Place) → run m q ≡ Some a → run n q ≡ Some b → a ≡ b) → a ≡ b
    by [] x y again = cc
    by (o ∷ outer) x y again = after (step_from p (o ∷ outer)) x y again

-- the walk answers what the reading does, and nothing else
walk_both : (octets : List ℕ) (r : Result (Tag × List ℕ) BerFault) → Enters [] 0 octets r →
    (answer : Result Tag BerFault)
    → (r >>= λ first. last first.0 (length octets - length first.1) first.1) ≡ answer
    → Walks octets answer × ((result : Result Tag BerFault) → Walks octets result → result ≡ answer)
walk_both octets (Ok x) enters answer is =
    let past : Place = place (0 + (length octets - length x.1)) x.1 [] in
    let there : 0 + (length octets - length x.1) ≡ length octets - length x.1 = omega arith in
    let ended : finish x.0 (Ok past) ≡ answer = ap (λ (n : ℕ). last x.0 n x.1) there ∙ is in
    let fate = enters.4 (Ok past) (fate_ends (0 + (length octets - length x.1)) x.1) in
    rw enters.1 (
      λ outcome other. sym ended ∙ ap (finish x.0) (run_once fate.steps other.steps enters.0 (Ok past) outcome
          fate.comes other.comes),
      λ result walks. walks (Ok past) fate ∙ ended,
    )
walk_both octets (Err fault) enters answer is = elim enters [
  | inl e ↦ rw e (sym is, λ result walks. walks ∙ is)
  | inr t ↦ rw t.2 (
    λ outcome other. sym is ∙ ap (finish t.0) (run_once t.3.steps other.steps t.1 (Err fault) outcome t.3.comes
        other.comes),
    λ result walks. walks (Err fault) t.3 ∙ is,
  )
]

pub walks_checked : (octets : List ℕ) → IsOctets octets → Walks octets (checked octets)
unfolding checked
walks_checked octets small = (walk_both octets (value_at 32 0 octets) (values_entered 32 0 refl 0 octets [] small refl)
    _ refl).0

pub walk_reads : (octets : List ℕ) (result : Result Tag BerFault) → IsOctets octets → Walks octets result → result
    ≡ checked octets
unfolding checked
walk_reads octets result small walks =
    (walk_both octets (value_at 32 0 octets) (values_entered 32 0 refl 0 octets [] small refl) _ refl).1 result walks

pub answers : (octets : List ℕ) (result : Result Tag BerFault) → IsOctets octets → Walks octets result
    → ((tag : Tag) → (result ≡ ok tag) ↔ BerValue 32 octets tag)
    × ((fault : BerFault) → (result ≡ err fault) ↔ BerFails octets fault)
answers octets result small walks =
    let same = walk_reads octets result small walks in
    decided result (judge octets small) (λ tag is. same ∙ checked_right octets tag is)
    (λ fault is. same ∙ checked_wrong octets fault is)
