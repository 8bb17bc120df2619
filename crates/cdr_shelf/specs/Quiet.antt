-- Members of a shelf that never fails.
use Rattle.std.specs.Prelude.{[], None, false}
use Rattle.area_disk.specs.Plan.{Schedule}

-- what a shelf says of its plan that tells none
abbrev pub no_plan : Schedule
no_plan = record { calls = 0; reads = 0; fail = []; read_fail = []; stop = None; stopped = false }
