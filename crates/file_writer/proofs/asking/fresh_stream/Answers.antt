use Rattle.std.proofs.Common.{arith}
use Rattle.area_disk.specs.ArmedLaws.{armed_reads_run, reads_run}
use Rattle.file_writer.proofs.asking.fresh_stream.Goals as goal

pub returns-in-Err-clause-asked : goal.returns-in-Err-clause-asked
returns-in-Err-clause-asked g c = search (arith, reads_run, armed_reads_run)
