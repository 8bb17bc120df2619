use Rattle.std.specs.Io.KnownBytes.{Keeps}
use Rattle.cgf_edge.proofs.again.write_again.Given as goal

-- what was interrupted wrote nothing
abbrev pub invariant-tries : goal.invariant-tries
invariant-tries g l = Keeps (g.W.Write.contents l.initial.writer) (g.W.Write.contents l.writer)
