use Rattle.file_writer.proofs.CallsLemmas.{seals_of_streams}
use Rattle.file_writer.proofs.laws.calls_seal_files_of_streams.Goals as goal

pub returns : goal.returns
returns c = λ settings closed sealed before items k. seals_of_streams settings closed sealed before items k
