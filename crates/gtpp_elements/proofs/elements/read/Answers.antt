use Rattle.std.proofs.Common.{sym}
use Rattle.gtpp_elements.proofs.ReadingLemmas.{err_again, no_fault, ok_again}
use Rattle.gtpp_elements.proofs.SpellingLemmas.{reading_fails, reading_spells}
use Rattle.gtpp_elements.proofs.elements.read.Goals as goal

pub invariant_of-result : goal.invariant_of-result
invariant_of-result c = no_fault _ (sym c.in-Ok.ensures)

pub returns-in-Ok : goal.returns-in-Ok
returns-in-Ok c =
    let is = ok_again _ (sym c.in-Ok.ensures) in
    record { reading = is; elements = reading_spells _ _ is; fault = reading_fails _ _ is }

pub returns-in-Err : goal.returns-in-Err
returns-in-Err c =
    let is = err_again _ _ (sym c.in-Err.ensures) in
    record { reading = is; elements = reading_spells _ _ is; fault = reading_fails _ _ is }
