use Rattle.std.proofs.Common.{◌≡◌, length}
use Rattle.std.specs.Io.KnownBytes.{Keeps}
use Rattle.cgf_edge.proofs.again.read_again.Given as goal

-- what was interrupted took nothing
abbrev pub invariant-tries : goal.invariant-tries
invariant-tries g l = (length l.into ≡ length l.initial.into) ×
    Keeps (g.R.Read.remaining l.initial.reader) (g.R.Read.remaining l.reader)
