use Rattle.std.proofs.Common.{◌≡◌, refl, ◌+◌, length, Some, slice_get, length-set, arith, sym, subst}
use Rattle.replay_world.proofs.Names.{IfOk-weaker, MachineStands, slice_get_read, TalliesIf}
use Rattle.replay_world.proofs.SummaryLemmas.{stands_same}
use Rattle.replay_world.proofs.RefusalLemmas.{gateway_at}
use Rattle.replay_world.proofs.replay.Replay.tally_gateway.Goals as goal

pub returns-clause-count : goal.returns-clause-count
returns-clause-count c = length-set c.args.self.now.gateways.items c.args.index c.tally.new.self

pub returns-clause-tallies : goal.returns-clause-tallies
returns-clause-tallies c = λ v stands.
    let k = c.args.index in
    let has : slice_get c.args.self.now.gateways.items k ≡ Some c.index_mut.result.now =
    slice_get_read c.args.self.now.gateways.items (length c.args.self.now.gateways.items) k c.index_mut.result.now refl
    c.requires c.index_mut.ensures.value in
    let here = gateway_at v _ stands k has in
    let same : 0 + k ≡ k = omega arith in
    let there = subst (λ p. MachineStands v.setup p here.gateway here.machine c.index_mut.result.now) same
    here.stands in
    IfOk-weaker c.tally.result _ _ (λ tally done. (
      stands_same _ stands done.1 here.has_gateway here.has_machine refl refl,
      subst (λ o. TalliesIf o tally) (sym here.has_gateway) done.0,
    )) (c.tally.ensures v.setup k here.gateway here.machine there)
