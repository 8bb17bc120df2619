use Rattle.std.proofs.Common.{arith}
use Rattle.file_writer.proofs.PartsLemmas.{none_taken, part_broken, part_taken}
use Rattle.file_writer.proofs.laws.parts_go_as_one.Goals as goal

pub returns-clause-none : goal.returns-clause-none
returns-clause-none g c = λ closed writer at. none_taken g.F.Shelf c.division_goes_on.ensures closed writer at

pub returns-clause-more : goal.returns-clause-more
returns-clause-more g c = λ closed all from most n first now later same taken done. search (arith, part_taken)

pub returns-clause-broken : goal.returns-clause-broken
returns-clause-broken g c = λ closed all from most first now later fault same taken done. search (arith, part_broken)
