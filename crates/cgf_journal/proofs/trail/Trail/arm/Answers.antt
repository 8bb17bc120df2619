use Rattle.std.proofs.Common.{rules}
use Rattle.cgf_journal.proofs.Trails.{kept}
use Rattle.cgf_journal.proofs.trail.Trail.arm.Goals as goal

pub returns-clause-kept : goal.returns-clause-kept
returns-clause-kept g c = search (rules, kept)
