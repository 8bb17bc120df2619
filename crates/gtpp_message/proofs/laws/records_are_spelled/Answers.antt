use Rattle.gtpp_message.proofs.RecordLemmas.{records_spelled}
use Rattle.gtpp_message.proofs.laws.records_are_spelled.Goals as goal

pub returns : goal.returns
returns c = records_spelled
