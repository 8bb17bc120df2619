use Rattle.std.proofs.Common.{ap, length, arith}
use Rattle.once_core.proofs.ArmLemmas.{first_stands, times_length}
use Rattle.once_core.specs.Beginning.{default_rules, first_gateway}
use Rattle.once_core.proofs.world.World.new.Goals as goal

pub invariant_of-result : goal.invariant_of-result
invariant_of-result c =
    omega (arith, ap length c.in_ok-first_gateways.ensures.gateways, times_length c.args.gateways (first_gateway default_rules), c.requires.gateways)

pub returns : goal.returns
returns c =
    first_stands c.args.gateways c.args.nodes c.in_ok-first_gateways.field-0.items c.in_ok-first_nodes.field-0.items c.first_moment.result c.new.result.items
    c.in_ok-first_gateways.ensures.gateways c.in_ok-first_nodes.ensures c.first_moment.ensures c.new.ensures.items
