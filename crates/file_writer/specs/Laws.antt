-- Laws of the definitions, as they are stated.
use Rattle.std.specs.Prelude.{◌≡◌, ℕ, List, ◌++◌}
use Rattle.file_rotate.specs.Division.{divided_from, goes_on}
use Rattle.file_rotate.specs.Items.{Filed}
use Rattle.file_rotate.specs.Items as stream
use Rattle.file_rotate.specs.declared.limits.Limits.{Limits}

-- a division goes on from the run that it leaves open
abbrev pub DivisionGoesOn : Type 0
DivisionGoesOn = (limits : Limits) (run : List (Filed (List ℕ))) (before after : List (stream.Item (List ℕ)))
    → divided_from limits run (before ++ after) ≡ goes_on limits (divided_from limits run before) after
