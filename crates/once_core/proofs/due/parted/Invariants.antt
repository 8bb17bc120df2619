use Rattle.std.proofs.Common.{◌≡◌, filter, map, nat_le, not}
use Rattle.once_core.proofs.due.parted.Given as goal

-- the answers so far were parted
abbrev pub invariant-loop-w : goal.invariant-loop-w
invariant-loop-w l = record {
  due : l.due.items ≡ map (λ w. w.message) (filter (λ w. nat_le w.front l.firm) l.yielded);
  later : l.later.items ≡ filter (λ w. not (nat_le w.front l.firm)) l.yielded;
}
