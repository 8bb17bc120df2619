use Rattle.std.proofs.Common.{◌≡◌, ◌++◌, drop}
use Rattle.replay_world.specs.Report.{node_text}
use Rattle.cgf_top.specs.LoopSteps.{lines_from}
use Rattle.cgf_top.proofs.looping.print_nodes.Given as goal

-- what was appended, and the lines that are left
abbrev pub invariant-loop-at : goal.invariant-loop-at
invariant-loop-at l = l.text ++ lines_from node_text l.at (drop l.at l.nodes)
    ≡ l.fn.text ++ lines_from node_text 0 l.nodes
