use Rattle.std.proofs.Common.{◌≡◌, ℕ, ◌+◌, ◌++◌, List}
use Rattle.loop_run.proofs.Names.{open_of, PacketId, UpTo}
use Rattle.loop_run.proofs.OpenLemmas.{open_upto}
use Rattle.loop_run.proofs.ending.with_node.Given as goal

-- those with the numbers in front were found
abbrev pub invariant-loop-place : goal.invariant-loop-place
invariant-loop-place l = record {
  found : (before : List PacketId) → l.initial.found ≡ open_of before → l.found ≡ open_of (before ++ open_upto l.node l.place);
  few : (n : ℕ) → UpTo n l.initial.found → UpTo (n + l.place) l.found;
}
