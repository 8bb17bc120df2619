use Rattle.std.proofs.Common.{arith}
use Rattle.world_script.proofs.SampleLemmas.{map_range}
use Rattle.world_script.proofs.samples.push_packets_of.Goals as goal

pub loop-place-preserved : goal.loop-place-preserved
loop-place-preserved c = search (arith, map_range)
