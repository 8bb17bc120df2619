use Rattle.std.proofs.Common.{arith}
use Rattle.gtpp_stream.proofs.DeframerLemmas.{kept_nothing}
use Rattle.gtpp_stream.proofs.deframer.Deframer.next.Goals as goal

pub invariant_of-self : goal.invariant_of-self
invariant_of-self c = (rw c.clear.ensures.items (kept_nothing c.self.inside.used), omega (arith, c.clear.ensures.capacity, c.self.invariant.1))
