use Rattle.std.proofs.Common.{arith}
use Rattle.world_script.proofs.SampleLemmas.{flat_range}
use Rattle.world_script.proofs.samples.push_calm_rounds.Goals as goal

pub loop-n-preserved : goal.loop-n-preserved
loop-n-preserved c = search (arith, flat_range)
