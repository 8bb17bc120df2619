use Rattle.std.proofs.Common.{arith}
use Rattle.world_script.proofs.SampleLemmas.{filter_range}
use Rattle.world_script.proofs.samples.push_commits.Goals as goal

pub loop-gateway-preserved : goal.loop-gateway-preserved
loop-gateway-preserved c = search (arith, filter_range)
