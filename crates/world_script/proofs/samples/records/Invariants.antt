use Rattle.std.proofs.Common.{◌≡◌, map}
use Rattle.world_script.proofs.Names.{range_with_len, record_octets}
use Rattle.world_script.proofs.samples.records.Given as goal

abbrev pub invariant-loop-number : goal.invariant-loop-number
invariant-loop-number l =
    l.records.items ≡ map (record_octets l.packet) (range_with_len 0 l.number)
