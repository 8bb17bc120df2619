use Rattle.std.proofs.Common.{◌≡◌, ◌-◌, ◌≤◌, ◌<◌, vec_len, length}
use Rattle.std.specs.Io.KnownBytes.{Consumes}
use Rattle.cgf_jobs.proofs.input.read_input.Given as goal

-- what was read so far was taken of the source
abbrev pub invariant-loop-piece : goal.invariant-loop-piece
invariant-loop-piece g l = record {
  consumed : Consumes (g.S.Source.left l.fn.source) (g.S.Source.left l.source) l.octets.items;
  bounded : vec_len l.octets ≤ l.fn.most;
  counted : g.S.Source.faults l.source ≡ g.S.Source.faults l.fn.source;
  piece : 0 < length l.piece;
}

abbrev pub decreases-loop-piece : goal.decreases-loop-piece
decreases-loop-piece g l = l.fn.most - vec_len l.octets
