use Rattle.std.proofs.Common.{◌≡◌, ◌++◌, All, length}
use Rattle.loop_run.proofs.Names.{CanLeave, into_iter_items, into_iter_len}
use Rattle.loop_run.proofs.CollectLemmas.{IsLeftSo}
use Rattle.loop_run.proofs.collecting.collect.Given as goal

-- those so far were taken apart, and those that are left can be
abbrev pub invariant-loop-seat : goal.invariant-loop-seat
invariant-loop-seat g l = record {
  split : l.yielded ++ into_iter_items l.seat-iterator ≡ into_iter_items l.initial.seat-iterator;
  count : into_iter_len l.seat-iterator ≡ length (into_iter_items l.seat-iterator);
  can : All (CanLeave g.L.Link.Link (g.L.Links.state l.links)) (into_iter_items l.seat-iterator);
  so : IsLeftSo g.L.Link.Link l.fn.setup (g.L.Links.state l.initial.links) (g.L.Links.state l.links) l.yielded l.looped
      l.stop;
}

abbrev pub decreases-loop-seat : goal.decreases-loop-seat
decreases-loop-seat g l = into_iter_len l.seat-iterator
