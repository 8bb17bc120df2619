-- What the walk comes to is kept by each of its steps.
use Rattle.std.proofs.Common.{◌≡◌, ℕ, zero, suc, ◌<◌, ◌≤◌, List, [], ◌∷◌, length, Option, Some, Result, Ok, Err, refl, sym, ap, subst, ◌∙◌, arith}
use Rattle.gw_base.specs.declared.tag.Tag.{Tag}
use Rattle.ber_frame.specs.declared.fault.BerFault.{BerFault}
use Rattle.ber_frame.specs.declared.fault.BerKind.TheVariants.{Trailing}
use Rattle.ber_frame.specs.Faults.{fault_at}
use Rattle.ber_frame.specs.Checked.{last}
use Rattle.ber_frame.specs.Walk.{Opened, Place, place, entered, step_from, after_step, follow, run, Fate, finish, Ends, Walks}

abbrev Comes : Type 0
Comes = Option (Result Place BerFault)

run_on : (go : Place → Option (Result Place BerFault)) (p q : Place) (opened : List Opened) → 0 < length opened → step_from p opened ≡ Ok q → follow go p opened ≡ go q
run_on go p q [] some step = absurd (omega arith)
run_on go p q (o ∷ outer) some step = ap (after_step go) step

run_off : (go : Place → Option (Result Place BerFault)) (p : Place) (fault : BerFault) (opened : List Opened) → 0 < length opened → step_from p opened ≡ Err fault → follow go p opened ≡ Some (Err fault)
run_off go p fault [] some step = absurd (omega arith)
run_off go p fault (o ∷ outer) some step = ap (after_step go) step

run_out : (go : Place → Option (Result Place BerFault)) (p : Place) (opened : List Opened) → length opened ≤ 0 → follow go p opened ≡ Some (Ok p)
run_out go p [] none = refl
run_out go p (o ∷ outer) none = absurd (omega arith)

abbrev is_some_of : Result Place BerFault → Option (Result Place BerFault)
is_some_of outcome = Some outcome

step_on : (steps : ℕ) (p q : Place) (outcome : Result Place BerFault) → 0 < length p.opened → step_from p p.opened ≡ Ok q → run steps p ≡ is_some_of outcome → Fate q outcome
unfolding run
step_on zero p q outcome some step e = absurd cc
step_on (suc steps) p q outcome some step e = record { steps = steps; comes = sym (run_on (run steps) p q p.opened some step) ∙ e }

step_off : (steps : ℕ) (p : Place) (fault : BerFault) (outcome : Result Place BerFault) → 0 < length p.opened → step_from p p.opened ≡ Err fault → run steps p ≡ is_some_of outcome → outcome ≡ Err fault
unfolding run
step_off zero p fault outcome some step e = absurd cc
step_off (suc steps) p fault outcome some step e = cc (run_off (run steps) p fault p.opened some step, e)

step_out : (steps : ℕ) (p : Place) (outcome : Result Place BerFault) → length p.opened ≤ 0 → run steps p ≡ is_some_of outcome → outcome ≡ Ok p
unfolding run
step_out zero p outcome none e = absurd cc
step_out (suc steps) p outcome none e = cc (run_out (run steps) p p.opened none, e)

pub fate_on : (p q : Place) (outcome : Result Place BerFault) → 0 < length p.opened → step_from p p.opened ≡ Ok q → Fate p outcome → Fate q outcome
fate_on p q outcome some step fate = step_on fate.steps p q outcome some step fate.comes

-- the invariant of the walk at a fault, and at its end
pub ends_off : (octets : List ℕ) (tag : Tag) (first p : Place) (fault : BerFault) → entered (place 0 octets []) ≡ Ok (tag, first)
    → ((outcome : Result Place BerFault) → Fate first outcome → Fate p outcome) → 0 < length p.opened → step_from p p.opened ≡ Err fault → Walks octets (Err fault)
ends_off octets tag first p fault enters kept some step =
    let ended : Ends (Ok (tag, first)) (Err fault) = λ outcome fate. sym (ap (finish tag) (step_off (kept outcome fate).steps p fault outcome some step (kept outcome fate).comes)) in
    subst (λ (x : Result (Tag × Place) BerFault). Ends x (Err fault)) (sym enters) ended

pub ends_out : (octets : List ℕ) (tag : Tag) (first p : Place) (result : Result Tag BerFault) → entered (place 0 octets []) ≡ Ok (tag, first)
    → ((outcome : Result Place BerFault) → Fate first outcome → Fate p outcome) → length p.opened ≤ 0 → result ≡ last tag p.at p.window → Walks octets result
ends_out octets tag first p result enters kept none is =
    let ended : Ends (Ok (tag, first)) result = λ outcome fate. is ∙ sym (ap (finish tag) (step_out (kept outcome fate).steps p outcome none (kept outcome fate).comes)) in
    subst (λ (x : Result (Tag × Place) BerFault). Ends x result) (sym enters) ended

pub last_none : (tag : Tag) (at : ℕ) (window : List ℕ) → length window ≡ 0 → Ok tag ≡ last tag at window
last_none tag at [] e = refl
last_none tag at (a ∷ window) e = absurd (omega (arith, e))

pub last_some : (tag : Tag) (at : ℕ) (window : List ℕ) → 0 < length window → Err (fault_at at Trailing) ≡ last tag at window
last_some tag at [] some = absurd (omega arith)
last_some tag at (a ∷ window) some = refl
