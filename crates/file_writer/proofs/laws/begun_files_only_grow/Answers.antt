use Rattle.file_writer.proofs.AmongLemmas.{begun_grow, shut_grow}
use Rattle.file_writer.proofs.laws.begun_files_only_grow.Goals as goal

pub returns-clause-begun : goal.returns-clause-begun
returns-clause-begun c = begun_grow c.division_goes_on.ensures

pub returns-clause-shut : goal.returns-clause-shut
returns-clause-shut c = shut_grow c.division_goes_on.ensures
