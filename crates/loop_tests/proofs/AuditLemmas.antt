-- The node of an audit keeps its packets, since it ran as those of a loop do.
use Rattle.std.proofs.Common.{◌≡◌, ℕ, List, subst, sym, arith}
use Rattle.loop_audit.specs.Standing.{KeepsAll}
use Rattle.loop_run.specs.Addresses.{IsLoop}
use Rattle.loop_run.specs.Looped.{node_made}
use Rattle.loop_run.specs.declared.setup.LoopSetup.{LoopSetup}
use Rattle.net_link.specs.declared.link.Link.{Ghosts}
use Rattle.node_core.specs.Value.{NodeValue}
use Rattle.node_run.specs.Outcomes.{EndsSo}
use Rattle.node_run.specs.Running.{Turn, node_after}
use Rattle.node_run.specs.declared.linked.LinkedNode.{LinkedNode}
use Rattle.node_run.specs.declared.linked.NodeEnd.{NodeEnd}
use Rattle.node_run.specs.declared.linked.NodeEnd.TheVariants as end
use Rattle.node_run.specs.declared.linked.Work.{Work}

-- a loop that has the node
abbrev pub of_two : LoopSetup
of_two = record { gateways = 2; nodes = 1; packets = 1; turns = 6 }

is_loop : IsLoop of_two
is_loop = record {
  some_gateways = omega arith;
  most_gateways = omega arith;
  some_nodes = omega arith;
  most_nodes = omega arith;
  some_packets = omega arith;
  most_packets = omega arith;
  some_turns = omega arith;
  most_turns = omega arith;
}

abbrev pub six_turns : Work
six_turns = record { packets = 1; turns = 6 }

-- what the law says of nodes of loops
abbrev pub Kept : Type 0
Kept = (setup : LoopSetup) (place : ℕ) (turns : List Turn) → IsLoop setup
    → KeepsAll (node_after setup.packets (node_made setup place) turns)

pub keeps_all : {L : Type 0} (tells : Ghosts L) (first : NodeValue) (linked : LinkedNode L) (how : NodeEnd) → Kept
    → first ≡ node_made of_two 0 → how ≡ end.Spent → EndsSo tells six_turns first linked how → KeepsAll linked.node
keeps_all tells first linked how law made is ends =
    let spent = subst (λ (h : NodeEnd). EndsSo tells six_turns first linked h) is ends in
    let ran = spent.0 in
    subst (λ (node : NodeValue). KeepsAll node) (sym ran.1.node_is)
    (subst (λ (node : NodeValue). KeepsAll (node_after 1 node ran.0)) (sym made) (law of_two 0 ran.0 is_loop))
