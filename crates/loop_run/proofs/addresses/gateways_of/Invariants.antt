use Rattle.std.proofs.Common.{◌≡◌, map}
use Rattle.loop_run.proofs.Names.{gateway_at, range_with_len}
use Rattle.loop_run.proofs.addresses.gateways_of.Given as goal

abbrev pub invariant-loop-place : goal.invariant-loop-place
invariant-loop-place l = l.addresses.items ≡ map gateway_at (range_with_len 0 l.place)
