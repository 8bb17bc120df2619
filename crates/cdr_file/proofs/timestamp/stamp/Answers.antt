use Rattle.std.proofs.Common.{sym, ◌∙◌, arith, FitsSigned, w16}
use Rattle.std.proofs.lemmas.Int.{to_z-of_z}
use Rattle.jiff_core.proofs.SignedLemmas.{signed_arith}
use Rattle.cdr_file.proofs.CountedDates.{stamp_of-shown}
use Rattle.cdr_file.proofs.timestamp.stamp.Goals as goal

-- the fields that the clock shows are those of the definition
pub returns : goal.returns
returns c =
    let fits : FitsSigned w16 c.minutes-ahead.result = omega (arith, signed_arith) in
    let shown = simp to_z-of_z at c.local_datetime.ensures in
    let fields = simp to_z-of_z at c.packed.ensures in
    let same = stamp_of-shown c.seconds.result c.minutes-ahead.result c.local_datetime.result c.seconds.ensures.within c.minutes-ahead.ensures.within shown in
    rw (← c.seconds.ensures.value, ← c.minutes-ahead.ensures.value) (fields ∙ sym same)
