use Rattle.std.proofs.Common.{◌≡◌, ◌-◌, length, None, slice_get, arith, sym, ap, true}
use Rattle.replay_world.proofs.Names.{Gateway, option_map_or, slice_get_past}
use Rattle.replay_world.proofs.RefusalLemmas.{gateway_down, gateways_count, read_in}
use Rattle.replay_world.proofs.replay.Replay.is_down.Goals as goal

pub returns-in-Some : goal.returns-in-Some
returns-in-Some c = λ v stands.
    gateway_down v _ stands _ _ _
    (read_in c.deref.ensures.value c.index_of.ensures c.in-Some.ensures.lookup.3.0 c.in-Some.ensures.lookup.1)
    c.is_down.ensures

pub returns-in-None : goal.returns-in-None
returns-in-None c = λ v stands.
    let count : length c.deref.result.now ≡ length c.args.self.now.gateways.items = cc c.deref.ensures.value in
    let none : slice_get v.world.gateways (c.args.gateway - 1) ≡ None =
    slice_get_past v.world.gateways (c.args.gateway - 1)
    (omega (arith, c.in-None.ensures.lookup.3, gateways_count v _ stands, c.index_of.ensures)) in
    sym (ap (λ o. option_map_or (λ (g : Gateway). g.is_down) o true) none)
