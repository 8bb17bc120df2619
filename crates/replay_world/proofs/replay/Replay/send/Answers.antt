use Rattle.std.proofs.Common.{◌≡◌, ◌∙◌, refl, ◌+◌, length, arith}
use Rattle.replay_world.proofs.StepsLemmas.{joins, sent_one}
use Rattle.replay_world.proofs.replay.Replay.send.Goals as goal

pub returns : goal.returns
returns c =
    let number : c.len.result + 1 ≡ length c.args.self.now.messages.items + 1 =
    omega (arith, c.len.ensures, c.args.self.now.messages.ok.0) in
    sent_one _ _ _ _ number refl c.in_ok-push.ensures.items (λ within. c.in-Ok.ensures.keys ∙ joins _ _ number within)
    c.in_ok-print_sent.ensures
