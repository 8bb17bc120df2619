use Rattle.std.proofs.Common.{◌≡◌, rules, ◌<◌, length, None, ap, sym, ◌∙◌, inr, arith, refl}
use Rattle.std.proofs.lemmas.List.{length-drop}
use Rattle.cdr_file.specs.Reading.{cdr_end}
use Rattle.cdr_file.proofs.LoopLemmas.{all_read, cdr_read, fault_read, none_left, some_left}
use Rattle.cdr_file.proofs.reading.cdrs_of.Goals as goal

pub returns-in-Some-clause-fault : goal.returns-in-Some-clause-fault
returns-in-Some-clause-fault c =
    let some : 0 < length c.loop-rest.rest.now = some_left _ (sym c.is_empty.ensures ∙ c.loop-rest-test.true) in
    inr (sym c.loop-rest.invariant.1 ∙ fault_read _ _ _ _ _ some (sym c.in-Some.ensures.fault))

pub loop-rest-preserved : goal.loop-rest-preserved
loop-rest-preserved c =
    let some : 0 < length c.loop-rest.rest.now = some_left _ (sym c.is_empty.ensures ∙ c.loop-rest-test.true) in
    let none : c.cdr_fault.result ≡ None = search rules in (
      omega (arith, ap length c.in_ok-cdr.ensures.1, length-drop (cdr_end c.args.extends c.loop-rest.rest.now) c.loop-rest.rest.now, c.loop-rest.invariant.0),
      rw c.in_ok-push_cdr.ensures
          (cdr_read c.args.extends (length c.args.octets.now) _ _ c.loop-rest.rest.now c.in_ok-cdr.after.now c.loop-rest.cdrs.items c.in_ok-cdr.cdr some c.loop-rest.invariant.0
          refl (sym c.cdr_fault.ensures.fault ∙ none) (c.cdr_fault.ensures.whole none) c.in_ok-cdr.ensures.0 c.in_ok-cdr.ensures.1 refl
          ∙ c.loop-rest.invariant.1),
    )

pub returns-clause-cdrs : goal.returns-clause-cdrs
returns-clause-cdrs c =
    let none : length c.loop-rest.rest.now ≡ 0 = none_left _ (sym c.is_empty.ensures ∙ c.loop-rest-test.false) in
    sym c.loop-rest.invariant.1 ∙ all_read _ _ _ _ none
