use Rattle.std.proofs.Common.{◌≡◌, ◌∙◌, sym, ap, ℕ, Bool, true, List, [], ◌∷◌, ◌++◌, if◌then◌else◌}
use Rattle.once_core.specs.Messages.{failing, is_response}
use Rattle.replay_gateway.proofs.calls.fail.Goals as goal

pub returns : goal.returns
returns c =
    let responds : is_response c.args.w.message ≡ true = sym c.is_response.ensures ∙ c.if-not-is_response.false in
    c.in_ok-push.ensures.items
    ∙ ap (λ (o : List ℕ). c.args.messages.now.items ++ record c.args.w.message { octets = o } ∷ [])
    (c.in_ok-message.ensures ∙ c.failure.ensures)
    ∙ sym (ap (λ (b : Bool). c.args.messages.now.items ++ (if b then failing c.args.w.message ∷ [] else [])) responds)
