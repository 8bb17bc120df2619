use Rattle.file_writer.proofs.AmongLemmas.{shut_open}
use Rattle.file_writer.proofs.laws.shut_streams_come_to_open_files.Goals as goal

pub returns : goal.returns
returns c = shut_open
