use Rattle.file_rotate.specs.Division.{division_of}
use Rattle.file_writer.proofs.OccupiedLemmas.{item-there}
use Rattle.file_writer.proofs.places.each_place_is_of_an_item.Goals as goal

pub returns : goal.returns
returns c =
    item-there (λ limits items. c.division_closes_where_files_end.ensures.records limits items (division_of limits items)
    (c.division_closes_where_files_end.ensures.ends limits items))
