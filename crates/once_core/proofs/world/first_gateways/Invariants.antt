use Rattle.std.proofs.Common.{◌≡◌}
use Rattle.once_core.specs.Beginning.{default_rules, first_gateway, times_of}
use Rattle.once_core.proofs.world.first_gateways.Given as goal

-- the gateways so far
abbrev pub invariant-loop-place : goal.invariant-loop-place
invariant-loop-place l = l.all.items ≡ times_of l._place (first_gateway default_rules)
