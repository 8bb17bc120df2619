use Rattle.file_writer.proofs.AmongLemmas.{open_shut}
use Rattle.file_writer.proofs.laws.open_files_leave_streams_shut.Goals as goal

pub returns : goal.returns
returns c = λ settings closed items files unsealed most are. open_shut settings closed items files unsealed most are
