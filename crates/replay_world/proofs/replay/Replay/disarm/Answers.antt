use Rattle.std.proofs.Common.{◌≡◌, refl, ◌+◌, length, Some, slice_get, length-set, arith}
use Rattle.std.proofs.lemmas.Option.{slice_get_read}
use Rattle.replay_world.proofs.QuietLemmas.{disarms, does_quietly, told_nothing}
use Rattle.replay_world.proofs.RefusalLemmas.{gateway_at}
use Rattle.replay_world.proofs.replay.Replay.disarm.Goals as goal

pub returns-clause-count : goal.returns-clause-count
returns-clause-count c = length-set c.args.self.now.gateways.items c.args.index c.disarm.new.self

pub returns-clause-does : goal.returns-clause-does
returns-clause-does c = λ v stands.
    let k = c.args.index in
    let has : slice_get c.args.self.now.gateways.items k ≡ Some c.index_mut.result.now =
    slice_get_read c.args.self.now.gateways.items (length c.args.self.now.gateways.items) k c.index_mut.result.now refl
    c.requires c.index_mut.ensures.value in
    let here = gateway_at v _ stands k has in
    let same : 0 + k ≡ k = omega arith in
    let there = rw same at here.stands in
    let sets = disarms v k _ _ here.has_gateway here.has_machine in
    does_quietly _ sets (told_nothing sets refl) stands (c.disarm.ensures v.setup k here.gateway here.machine there)
    refl refl
