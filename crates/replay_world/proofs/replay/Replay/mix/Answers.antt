use Rattle.std.proofs.Common.{◌≡◌, ◌∙◌, subst}
use Rattle.replay_world.proofs.Names.{Makes, mixed_steps, on_ok_weaker, seeded}
use Rattle.replay_world.proofs.DeliverLemmas.{waiting_sent, is_seeded}
use Rattle.replay_world.proofs.replay.Replay.mix.Goals as goal

pub returns : goal.returns
returns c = λ v stands.
    let keys : c.deref.result.now ≡ c.args.self.now.waiting.keys =
    c.deref.ensures.value ∙ c.in_ok-numbers.ensures.items_if_clones_equal (λ x y same. same)
    ∙ c.as_slice.ensures.keys in
    let rng = is_seeded c.args.seed c.seed_from_u64-rng.ensures in
    on_ok_weaker c.draw_all.result (λ done.
    subst (λ ks. Makes v (mixed_steps (seeded c.args.seed) ks) c.args.out.now c.draw_all.new.out c.draw_all.new.self)
    (keys ∙ stands.waits)
    (subst (λ g. Makes v (mixed_steps g c.deref.result.now) c.args.out.now c.draw_all.new.out c.draw_all.new.self) rng
    done)) (c.draw_all.ensures v stands (waiting_sent stands keys))
