use Rattle.std.proofs.Common.{length}
use Rattle.cgf_journal.proofs.Names.{AreBatches, first-header, header, length-header}
use Rattle.cgf_journal.proofs.Meanings.{are_batches-first, foreign_or_starts, one_place}
use Rattle.cgf_journal.proofs.laws.what_is_foreign_is_so_at_one_place.Goals as goal

pub returns-clause-starts : goal.returns-clause-starts
returns-clause-starts c = λ size address generation octets at foreign starts. foreign_or_starts (header size address generation) (length-header size address generation) octets (AreBatches (length octets)) (are_batches-first (length octets)) (first-header size address generation) at foreign starts

pub returns-clause-place : goal.returns-clause-place
returns-clause-place c = λ size address generation octets at far one two. one_place (header size address generation) (length-header size address generation) octets (AreBatches (length octets)) (are_batches-first (length octets)) at far one two
