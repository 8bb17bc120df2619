use Rattle.std.proofs.Common.{◌≡◌}
use Rattle.once_core.specs.Addresses.{addresses_from}
use Rattle.once_core.proofs.addresses.addresses_of.Given as goal

-- the addresses so far
abbrev pub invariant-loop-gateway : goal.invariant-loop-gateway
invariant-loop-gateway l = l.addresses.items ≡ addresses_from 0 l.gateway
