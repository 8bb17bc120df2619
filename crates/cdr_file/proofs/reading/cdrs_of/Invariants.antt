use Rattle.std.proofs.Common.{◌≡◌, ◌≤◌, ◌-◌, length, drop}
use Rattle.cdr_file.specs.Reading.{cdrs_from}
use Rattle.cdr_file.proofs.LoopLemmas.{all_in_front}
use Rattle.cdr_file.proofs.reading.cdrs_of.Given as goal

-- the CDRs so far, in front of those that are left, are those of the file
abbrev pub invariant-loop-rest : goal.invariant-loop-rest
invariant-loop-rest l =
    (length l.rest ≤ length l.octets)
    × (all_in_front l.cdrs.items (cdrs_from l.extends (length l.octets - length l.rest) l.rest) ≡ cdrs_from l.extends l.start (drop l.start l.octets))

abbrev pub decreases-loop-rest : goal.decreases-loop-rest
decreases-loop-rest l = length l.rest
