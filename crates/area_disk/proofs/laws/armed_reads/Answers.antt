use Rattle.area_disk.specs.ArmedLaws.{reads_run, armed_reads_run}
use Rattle.area_disk.proofs.laws.armed_reads.Goals as goal

pub returns-clause-run : goal.returns-clause-run
returns-clause-run c = λ a s is. reads_run s (armed_reads_run a s is)
