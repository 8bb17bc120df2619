use Rattle.std.proofs.Common.{length}
use Rattle.file_writer.specs.Streams.{stream_record}
use Rattle.once_core.proofs.ReadableLemmas.{among_files, read_there}
use Rattle.once_core.proofs.reading_laws.what_a_history_files_is_read.Goals as goal

pub returns : goal.returns
returns c = λ settings header octets h files place filing are stands short files_are closed is.
    among_files settings h files place (stream_record settings.profile filing.kind filing.octets filing.moment) filing
    are.streams files_are is
    (read_there c.each_stamp_fits.ensures c.a_record_is_read_at_its_place.ensures settings h place
    (stream_record settings.profile filing.kind filing.octets filing.moment) stands.stands.each (length octets)
    (c.items_are_fewer_than_octets.ensures.stands header octets h stands) short are.limits are.offset closed
    (c.what_stands_at_a_place_was_filed.ensures.there settings h place filing is))
