use Rattle.std.proofs.Common.{arith}
use Rattle.jiff_core.proofs.SignedLemmas.{signed_casts}
use Rattle.cdr_file.proofs.timestamp.local_datetime.Goals as goal

pub returns : goal.returns
returns c =
    let instant = rw c.unwrap-instant.ensures at c.from_second.ensures.value in
    let offset = rw c.unwrap-offset.ensures at c.from_seconds.ensures.value in
    rw c.to_plain.ensures (omega (arith, signed_casts, c.to_datetime.ensures))
