use Rattle.std.proofs.Common.{refl}
use Rattle.loop_run.proofs.LeavingLemmas.{at_end, for_memory, node_leaves}
use Rattle.node_run.specs.declared.linked.NodeEnd.TheVariants as end
use Rattle.loop_run.proofs.collecting.leave_node.Goals as goal

pub returns-in_default : goal.returns-in_default
returns-in_default g c = node_leaves g.L.Link.Link c.args.linked c.args.end _ _ _ _ _ _ c.back.ensures c.back-2.ensures
    (λ is. absurd (cc is)) refl (for_memory g.L.Link.Link c.args.end)

pub returns-in-Done : goal.returns-in-Done
returns-in-Done g c = node_leaves g.L.Link.Link c.args.linked c.args.end _ _ _ _ _ _ c.back.ensures c.back-2.ensures
    (λ is. c.in-Ok.ensures.items) refl (rw c.in-Done.is (at_end g.L.Link.Link end.Done))

pub returns-in-Spent : goal.returns-in-Spent
returns-in-Spent g c = node_leaves g.L.Link.Link c.args.linked c.args.end _ _ _ _ _ _ c.back.ensures c.back-2.ensures
    (λ is. c.in-Ok.ensures.items) refl (rw c.in-Spent.is (at_end g.L.Link.Link end.Spent))

pub returns-in-Link : goal.returns-in-Link
returns-in-Link g c = node_leaves g.L.Link.Link c.args.linked c.args.end _ _ _ _ _ _ c.back.ensures c.back-2.ensures
    (λ is. absurd (cc is)) refl (rw c.in-Link.is (at_end g.L.Link.Link end.Link))

pub returns-in-NoMemory : goal.returns-in-NoMemory
returns-in-NoMemory g c = node_leaves g.L.Link.Link c.args.linked c.args.end _ _ _ _ _ _ c.back.ensures
    c.back-2.ensures (λ is. absurd (cc is)) refl (for_memory g.L.Link.Link c.args.end)
