use Rattle.std.proofs.Common.{◌≡◌, None, map, take}
use Rattle.std.specs.List.{find}
use Rattle.area_disk.specs.Moments.{Told}
use Rattle.loop_audit.specs.Audit.{is_wrong, looked_at}
use Rattle.loop_audit.specs.Standing.{histories_of}
use Rattle.loop_audit.proofs.auditing.first_wrong.Given as goal

-- of those in front none is wrong
abbrev pub invariant-loop-before : goal.invariant-loop-before
invariant-loop-before g l = Told g.A.Area →
    find is_wrong (take l.before (map (looked_at (histories_of l.books) l.node) l.node.packets)) ≡ None
