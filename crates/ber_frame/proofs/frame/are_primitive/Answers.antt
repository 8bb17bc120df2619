use Rattle.std.proofs.Common.{◌≡◌, None, ◌∙◌, sym, rules}
use Rattle.ber_frame.specs.Reading.{behind_primitive}
use Rattle.ber_frame.proofs.Flats.{tells_first, tells_off, tells_on, tells_out}
use Rattle.ber_frame.proofs.frame.are_primitive.Goals as goal

pub loop-rest-init : goal.loop-rest-init
loop-rest-init c = tells_first c.args.octets.now

pub returns-in_default : goal.returns-in_default
returns-in_default c =
    let is : behind_primitive c.loop-rest.rest.now ≡ None = search rules in
    tells_off c.loop-rest.rest.now _ c.loop-rest.invariant is (sym c.is_empty.ensures ∙ c.loop-rest-test.true)

pub loop-rest-preserved : goal.loop-rest-preserved
loop-rest-preserved c =
    tells_on c.loop-rest.rest.now c.in-Some.behind.now _ c.loop-rest.invariant (sym c.in-Some.ensures.value)
    (sym c.is_empty.ensures ∙ c.loop-rest-test.true) c.in-Some.ensures.shorter

pub returns : goal.returns
returns c = tells_out c.loop-rest.rest.now _ c.loop-rest.invariant (sym c.is_empty.ensures ∙ c.loop-rest-test.false)
