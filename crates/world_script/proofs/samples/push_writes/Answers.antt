use Rattle.std.proofs.Common.{arith}
use Rattle.world_script.proofs.SampleLemmas.{flat_range}
use Rattle.world_script.proofs.samples.push_writes.Goals as goal

pub loop-gateway-preserved : goal.loop-gateway-preserved
loop-gateway-preserved c = search (arith, flat_range)
