use Rattle.std.proofs.Common.{◌≡◌, map, take}
use Rattle.loop_run.proofs.Names.{AreAlike, gateway_counts_of, value_of}
use Rattle.loop_run.proofs.counts.gateway_counts.Given as goal

-- those in front were counted
abbrev pub invariant-loop-place : goal.invariant-loop-place
invariant-loop-place l = record {
  counts : l.counts.items ≡ map (λ book. gateway_counts_of (value_of book)) (take l.place l.initial.books);
  same : AreAlike l.initial.books l.books;
}
