use Rattle.std.proofs.Common.{arith}
use Rattle.world_script.proofs.SampleLemmas.{flat_range}
use Rattle.world_script.proofs.samples.push_packets.Goals as goal

pub loop-node-preserved : goal.loop-node-preserved
loop-node-preserved c = search (arith, flat_range)
