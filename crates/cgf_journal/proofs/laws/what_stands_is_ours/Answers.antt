use Rattle.std.proofs.Common.{length}
use Rattle.cgf_journal.proofs.Names.{AreBatches, first-header, header, in_batches, length-header}
use Rattle.cgf_journal.proofs.Meanings.{are_batches-first, stands_or_foreign, stands_or_starts}
use Rattle.cgf_journal.proofs.laws.what_stands_is_ours.Goals as goal

pub returns-clause-starts : goal.returns-clause-starts
returns-clause-starts c = λ size address generation octets h stands starts. stands_or_starts (header size address generation) (length-header size address generation) octets (first-header size address generation) h stands starts

pub returns-clause-foreign : goal.returns-clause-foreign
returns-clause-foreign c = λ size address generation octets h at stands foreign.
    let these = header size address generation in
    let list = in_batches c.entries_are_read_back.ensures these octets h stands in
    stands_or_foreign these (length-header size address generation) octets (AreBatches (length octets)) (are_batches-first (length octets)) list.batches at list.stands list.are_batches foreign
