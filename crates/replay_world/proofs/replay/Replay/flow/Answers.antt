use Rattle.std.proofs.Common.{◌≡◌, ◌∙◌, subst, map}
use Rattle.replay_world.proofs.Names.{delivers, Makes, on_ok_weaker}
use Rattle.replay_world.proofs.DeliverLemmas.{waiting_sent}
use Rattle.replay_world.proofs.replay.Replay.flow.Goals as goal

pub returns : goal.returns
returns c = λ v stands.
    let keys : c.deref.result.now ≡ c.args.self.now.waiting.keys =
    c.deref.ensures.value ∙ c.in_ok-numbers.ensures.items_if_clones_equal (λ x y same. same)
    ∙ c.as_slice.ensures.keys in
    on_ok_weaker c.deliver_all.result (λ done.
    subst (λ ks. Makes v (map delivers ks) c.args.out.now c.deliver_all.new.out c.deliver_all.new.self)
    (keys ∙ stands.waits) done) (c.deliver_all.ensures v stands (waiting_sent stands keys))
