use Rattle.std.proofs.Common.{arith}
use Rattle.file_writer.proofs.RecordsLemmas.{place-has, place-only}
use Rattle.file_writer.proofs.places.each_record_has_one_place.Goals as goal

pub returns-clause-has : goal.returns-clause-has
returns-clause-has c = search (arith, place-has, c.division_closes_where_files_end.ensures.ends)

pub returns-clause-only : goal.returns-clause-only
returns-clause-only c = λ settings items k l place h g. place-only settings items k l place h g
