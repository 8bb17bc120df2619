use Rattle.file_writer.proofs.CallsLemmas.{seals-calls_of}
use Rattle.file_writer.proofs.laws.calls_seal_what_items_close.Goals as goal

pub returns : goal.returns
returns c = seals-calls_of c.division_goes_on.ensures
