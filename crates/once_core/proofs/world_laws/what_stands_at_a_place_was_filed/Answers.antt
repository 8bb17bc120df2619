use Rattle.file_rotate.specs.Division.{division_of}
use Rattle.once_core.proofs.FilePlaceLemmas.{all_stand, stands_there, was_filed}
use Rattle.once_core.proofs.world_laws.what_stands_at_a_place_was_filed.Goals as goal

pub returns-clause-filed : goal.returns-clause-filed
returns-clause-filed c = λ settings h place filing.
    was_filed (λ limits items. c.division_closes_where_files_end.ensures.records limits items (division_of limits items)
    (c.division_closes_where_files_end.ensures.ends limits items)) settings h place filing

pub returns-clause-there : goal.returns-clause-there
returns-clause-there c = λ settings h place filing.
    stands_there (λ limits items. c.division_closes_where_files_end.ensures.records limits items (division_of limits items)
    (c.division_closes_where_files_end.ensures.ends limits items)) settings h place filing

pub returns-clause-all : goal.returns-clause-all
returns-clause-all c = λ settings h place found.
    all_stand (λ limits items. c.division_closes_where_files_end.ensures.records limits items (division_of limits items)
    (c.division_closes_where_files_end.ensures.ends limits items)) settings h place found
