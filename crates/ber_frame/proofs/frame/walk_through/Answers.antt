use Rattle.std.proofs.Common.{◌≡◌, ℕ, ◌<◌, ◌≤◌, ◌∙◌, [], ap, sym, length, Result, Ok, Err, arith, rules}
use Rattle.std.proofs.lemmas.Result.{err_from_is_err_and}
use Rattle.gw_base.specs.declared.tag.Tag.{Tag}
use Rattle.ber_frame.specs.declared.fault.BerFault.{BerFault}
use Rattle.ber_frame.specs.declared.fault.BerKind.TheVariants.{Trailing}
use Rattle.ber_frame.specs.Faults.{fault_at}
use Rattle.ber_frame.specs.Walk.{entered, place}
use Rattle.ber_frame.proofs.Fates.{fate_on, ends_off, ends_out, last_none, last_some}
use Rattle.ber_frame.proofs.Flats.{flat_walks}
use Rattle.ber_frame.proofs.Octets.{are_octets}
use Rattle.ber_frame.proofs.frame.walk_through.Goals as goal

pub returns-in-Some : goal.returns-in-Some
returns-in-Some c =
    flat_walks c.args.octets.now c.in-Some.tag (are_octets c.args.octets.now (λ i. omega (arith, c.type_inv.octets i)))
    (sym c.in-Some.ensures)

pub loop-walk-preserved : goal.loop-walk-preserved
loop-walk-preserved c = λ outcome fate.
    let some : 0 < length c.loop-walk.walk.opened = search rules in
    fate_on c.loop-walk.walk c.step.new.self outcome some c.in_ok-step.ensures.place (c.loop-walk.invariant outcome fate)

pub returns-in_err-step : goal.returns-in_err-step
returns-in_err-step c =
    let some : 0 < length c.loop-walk.walk.opened = search rules in
    let p = err_from_is_err_and c.from_residual-in_err-step.result c.from_residual-in_err-step.ensures.1 in
    let enters : entered (place 0 c.args.octets.now []) ≡ Ok (c.in_ok-tag.tag, c.enter.new.self) = ap entered (sym c.new-walk.ensures) ∙ c.in_ok-tag.ensures.place in
    rw (p.1, p.2) (ends_off c.args.octets.now c.in_ok-tag.tag c.enter.new.self c.loop-walk.walk c.in_err-step.field-0.0 enters c.loop-walk.invariant some c.in_err-step.ensures.place)

pub returns-then-is_empty : goal.returns-then-is_empty
returns-then-is_empty c =
    let none : length c.loop-walk.walk.opened ≤ 0 = grind (arith, c.loop-walk-test.ensures) in
    let empty : length c.loop-walk.walk.window ≡ 0 = grind (arith, c.window.ensures) in
    let enters : entered (place 0 c.args.octets.now []) ≡ Ok (c.in_ok-tag.tag, c.enter.new.self) = ap entered (sym c.new-walk.ensures) ∙ c.in_ok-tag.ensures.place in
    ends_out c.args.octets.now c.in_ok-tag.tag c.enter.new.self c.loop-walk.walk (Ok c.in_ok-tag.tag) enters c.loop-walk.invariant none (last_none c.in_ok-tag.tag c.loop-walk.walk.at c.loop-walk.walk.window empty)

pub returns : goal.returns
returns c =
    let none : length c.loop-walk.walk.opened ≤ 0 = grind (arith, c.loop-walk-test.ensures) in
    let some : 0 < length c.loop-walk.walk.window = grind (arith, c.window.ensures) in
    let enters : entered (place 0 c.args.octets.now []) ≡ Ok (c.in_ok-tag.tag, c.enter.new.self) = ap entered (sym c.new-walk.ensures) ∙ c.in_ok-tag.ensures.place in
    let answer : Result Tag BerFault = Err (fault_at c.at.result Trailing) in
    ends_out c.args.octets.now c.in_ok-tag.tag c.enter.new.self c.loop-walk.walk (Err (fault_at c.at.result Trailing)) enters c.loop-walk.invariant none
    (ap (λ (n : ℕ). Err (fault_at n Trailing)) c.at.ensures ∙ last_some c.in_ok-tag.tag c.loop-walk.walk.at c.loop-walk.walk.window some)
