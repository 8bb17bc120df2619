use Rattle.std.proofs.Common.{◌≡◌, ◌-◌, ◌≤◌, All, vec_capacity, vec_len}
use Rattle.session_run.proofs.Names.{Addr, IsNewAt}
use Rattle.session_run.proofs.links.split_all.Given as goal

-- all are new
abbrev pub invariant-splits : goal.invariant-splits
invariant-splits g l = record {
  new : (at : Addr) → IsNewAt at (g.K.Link.state l.initial.last) → All (λ link. IsNewAt at (g.K.Link.state link)) l.made.items;
  ends : (at : Addr) → IsNewAt at (g.K.Link.state l.initial.last) → IsNewAt at (g.K.Link.state l.last);
  few : vec_len l.made ≤ 4;
  room : vec_capacity l.made ≡ 5;
}

abbrev pub decreases-splits : goal.decreases-splits
decreases-splits g l = 4 - vec_len l.made
