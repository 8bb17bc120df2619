use Rattle.file_writer.proofs.ReadingLemmas.{read-there}
use Rattle.file_writer.proofs.places.a_record_is_read_at_its_place.Goals as goal

pub returns : goal.returns
returns c = read-there c.what_is_written_is_read.ensures
