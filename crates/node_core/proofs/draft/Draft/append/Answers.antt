use Rattle.std.proofs.Common.{arith}
use Rattle.node_core.proofs.DraftLemmas.{Fits, draft_grown, fault_kept, fits, form_grown}
use Rattle.node_core.proofs.draft.Draft.append.Goals as goal
use Rattle.node_core.proofs.draft.Draft.append.Goals.{in-Ok, in-Err}

fits_kept : (c : goal.Joined-grow) → Fits c.self.inside.format c.self.inside.version c.self.inside.octets.items c.args.octets.now
fits_kept c = search (arith, fits, fault_kept)

pub invariant_of-self : goal.invariant_of-self
invariant_of-self c = search (arith, in-Ok, draft_grown, fits_kept, in-Err)

pub returns-clause-added : goal.returns-clause-added
returns-clause-added c = search (arith, in-Ok, form_grown, fits_kept, in-Err)
