use Rattle.std.proofs.Common.{rules}
use Rattle.std.proofs.lemmas.List.{take-map}
use Rattle.cgf_journal.proofs.places.Places.truncate.Goals as goal

pub returns-clause-items : goal.returns-clause-items
returns-clause-items c = search (rules, take-map)
