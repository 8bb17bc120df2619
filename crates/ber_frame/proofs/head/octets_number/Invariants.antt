use Rattle.std.proofs.Common.{◌≡◌, ◌≤◌, ◌^◌, drop}
use Rattle.std.specs.Prelude.{fold}
use Rattle.ber_frame.specs.Reading.{next_digit}
use Rattle.ber_frame.proofs.head.octets_number.Given as goal

abbrev pub invariant-loop-octet : goal.invariant-loop-octet
invariant-loop-octet l = record {
  capped : l.number ≤ 2 ^ 32;
  rest : fold (next_digit 256) l.number (drop l.octet-index l.octets) ≡ fold (next_digit 256) 0 l.octets;
}
