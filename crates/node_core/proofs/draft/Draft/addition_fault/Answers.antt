use Rattle.std.proofs.Common.{arith}
use Rattle.node_core.proofs.DraftLemmas.{fault_kept}
use Rattle.node_core.proofs.draft.Draft.addition_fault.Goals as goal

pub returns : goal.returns
returns c = search (arith, fault_kept)
