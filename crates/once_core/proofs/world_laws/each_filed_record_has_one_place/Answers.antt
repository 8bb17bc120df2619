use Rattle.once_core.proofs.Names.{division_of, is_record_of}
use Rattle.once_core.proofs.FilePlaceLemmas.{one_there, placed_count}
use Rattle.once_core.proofs.world_laws.each_filed_record_has_one_place.Goals as goal

pub returns-clause-count : goal.returns-clause-count
returns-clause-count c = λ settings key index h.
    placed_count (is_record_of key index)
    (λ limits items. c.division_closes_where_files_end.ensures.records limits items (division_of limits items)
    (c.division_closes_where_files_end.ensures.ends limits items)) settings h

pub returns-clause-only : goal.returns-clause-only
returns-clause-only c = λ settings h place one other. one_there settings h place one other
