use Rattle.std.proofs.Common.{arith}
use Rattle.gtpp_stream.proofs.DeframerLemmas.{kept_nothing}
use Rattle.gtpp_stream.proofs.deframer.Deframer.new.Goals as goal

pub invariant_of-result : goal.invariant_of-result
invariant_of-result c =
    (rw c.in_ok-with_capacity.ensures.items (kept_nothing 0), omega (arith, c.in_ok-with_capacity.ensures.capacity))
