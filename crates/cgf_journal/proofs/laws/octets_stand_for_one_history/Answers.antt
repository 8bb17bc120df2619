use Rattle.cgf_journal.proofs.Names.{header, in_batches, length-header}
use Rattle.cgf_journal.proofs.Meanings.{one_history}
use Rattle.cgf_journal.proofs.laws.octets_stand_for_one_history.Goals as goal

pub returns : goal.returns
returns c = λ size address generation octets h g one two.
    let back = c.entries_are_read_back.ensures in
    let these = header size address generation in
    one_history these (length-header size address generation) octets h g (in_batches back these octets h one) (in_batches back these octets g two)
