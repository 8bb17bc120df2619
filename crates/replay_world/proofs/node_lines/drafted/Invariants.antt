use Rattle.std.proofs.Common.{◌≡◌, drop}
use Rattle.replay_world.specs.Packets.{drafted, with_records}
use Rattle.replay_world.proofs.node_lines.drafted.Given as goal

-- what is left to add comes to the same
abbrev pub invariant-loop-record : goal.invariant-loop-record
invariant-loop-record l = with_records l.draft (drop l.record-index l.records) ≡ drafted l.format l.version l.records
