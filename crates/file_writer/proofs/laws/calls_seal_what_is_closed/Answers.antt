use Rattle.file_writer.proofs.CallsLemmas.{seals-calls_from}
use Rattle.file_writer.proofs.laws.calls_seal_what_is_closed.Goals as goal

pub returns : goal.returns
returns c = λ settings s sealed closed run items. seals-calls_from settings s sealed closed run items
