use Rattle.std.proofs.Common.{◌≡◌, ◌≤◌, ◌^◌, drop}
use Rattle.ber_frame.specs.Reading.{groups_at}
use Rattle.ber_frame.proofs.head.groups.Given as goal

abbrev pub invariant-loop-i : goal.invariant-loop-i
invariant-loop-i l = record {
  capped : l.number ≤ 2 ^ 32;
  rest : groups_at l.number (drop l.i l.octets) ≡ groups_at 0 l.octets;
}
