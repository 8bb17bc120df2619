use Rattle.std.proofs.Common.{◌≡◌, ◌∙◌, refl, ◌+◌, ◌-◌, ◌<◌, [], ◌∷◌, length, true, arith, subst}
use Rattle.replay_world.proofs.Names.{after_steps, Disarms, range_with_len}
use Rattle.replay_world.proofs.GatewayEventLemmas.{machines_count}
use Rattle.replay_world.proofs.SettleLemmas.{disarms, disarms_next}
use Rattle.replay_world.proofs.StepsLemmas.{SoFar, does_one, so_far_does, so_far_more, so_far_none}
use Rattle.replay_world.proofs.replay.Replay.disarm_all.Goals as goal

pub loop-index-init : goal.loop-index-init
loop-index-init c = record {
  count = refl;
  done = λ v stands.
      let n = length v.world.gateways in
      let whole : n ≡ n - 0 = omega arith in
      subst (λ k. SoFar v (disarms (range_with_len 1 n)) (disarms (range_with_len 1 k)) [] [] c.args.self.now) whole
      (so_far_none v (disarms (range_with_len 1 n)) [] stands);
}

pub loop-index-preserved : goal.loop-index-preserved
loop-index-preserved c = record {
  count = c.disarm.ensures.count ∙ c.loop-index.invariant.count;
  done = λ v stands.
      let n = length v.world.gateways in
      let i = c.loop-index.index in
      let less : i < n =
      omega (arith, c.len-index-end.ensures, c.args.self.now.gateways.ok.0, machines_count v _ stands) in
      let all = disarms (range_with_len 1 n) in
      let so = rw (disarms_next i n less) at (c.loop-index.invariant.done v stands) in
      so_far_more v all [] (Disarms i ∷ []) (disarms (range_with_len (i + 1 + 1) (n - (i + 1)))) [] [] c.loop-index.self
      c.disarm.new.self so
      (does_one {v = after_steps v so.front} {step = Disarms i} {before = []} {after = []} {r = c.disarm.new.self}
      {on = true} (record { does = c.disarm.ensures.does (after_steps v so.front) so.does.makes.stands; goes = refl }));
}

pub returns : goal.returns
returns c = λ v stands.
    let n = length v.world.gateways in
    let none : n - c.loop-index.index ≡ 0 =
    omega (arith, c.len-index-end.ensures, c.args.self.now.gateways.ok.0, machines_count v _ stands) in
    so_far_does v (rw none at (c.loop-index.invariant.done v stands))
