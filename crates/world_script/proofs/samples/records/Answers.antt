use Rattle.std.proofs.Common.{[], arith, rules}
use Rattle.world_script.specs.Sample.{record_octets}
use Rattle.world_script.proofs.SampleLemmas.{map_range}
use Rattle.world_script.proofs.samples.records.Goals as goal

pub loop-number-preserved : goal.loop-number-preserved
loop-number-preserved c =
    map_range (record_octets c.args.packet) 0 c.loop-number.number c.loop-number.number [] _ _ (omega arith) c.loop-number.invariant (search rules)
