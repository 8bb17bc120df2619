use Rattle.std.proofs.Common.{◌≡◌, ap, ◌∙◌, length, arith}
use Rattle.once_core.proofs.node_turn.KeptNode.new.Goals as goal

pub new-requires-clause-most : goal.new-requires-clause-most
new-requires-clause-most c =
    let count : length c.deref.result.now ≡ c.args.gateways = ap length c.deref.ensures.value ∙ c.in_ok-addresses.ensures.count in
    omega (arith, count)
