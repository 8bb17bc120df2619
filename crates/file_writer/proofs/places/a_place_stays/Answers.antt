use Rattle.file_writer.proofs.RecordsLemmas.{place-stays}
use Rattle.file_writer.proofs.places.a_place_stays.Goals as goal

pub returns : goal.returns
returns c = λ settings items more k place h. place-stays c.division_goes_on.ensures settings items more k place h
