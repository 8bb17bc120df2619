use Rattle.std.proofs.Common.{ap, arith, sym, ◌∙◌}
use Rattle.std.specs.Result.{result_err}
use Rattle.std.proofs.lemmas.Result.{err_from_is_err_and}
use Rattle.gtpp_elements.proofs.ReadingLemmas.{fault_further, fault_left, no_fault_left}
use Rattle.gtpp_elements.proofs.elements.check.Goals as goal

pub returns-in_err-found : goal.returns-in_err-found
returns-in_err-found c =
    let failed = err_from_is_err_and c.from_residual.result c.from_residual.ensures.1 in
    rw (failed.1, failed.2)
    (ap result_err (fault_left _ _ _ (sym c.is_empty.ensures ∙ c.loop-rest-test.true) c.in_err-found.ensures.reading c.loop-rest.invariant.1))

pub loop-rest-preserved : goal.loop-rest-preserved
loop-rest-preserved c =
    (omega (arith, c.in_ok-found.ensures.shorter), fault_further _ _ _ _ _ c.in_ok-found.ensures.reading c.loop-rest.invariant.1)

pub returns : goal.returns
returns c = sym (no_fault_left _ _ _ (sym c.is_empty.ensures ∙ c.loop-rest-test.false) c.loop-rest.invariant.1)
