use Rattle.std.proofs.Common.{◌≡◌, ◌*◌, ◌++◌, take, drop}
use Rattle.hex.specs.Hex.{encode_upper}
use Rattle.cgf_jobs.proofs.printing.spell_line.Given as goal

-- the digits so far, and those of the octets that are left
abbrev pub invariant-octets : goal.invariant-octets
invariant-octets l = take (2 * l.k) l.line ++ encode_upper (drop l.k l.octets) ≡ encode_upper l.octets
