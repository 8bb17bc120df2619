use Rattle.std.proofs.Common.{◌∙◌, refl, ap, ◌++◌, ◌∷◌, [], arith}
use Rattle.replay_gateway.proofs.RedirectLemmas.{asked_all, asked_as, asked_few, asked_more, book_there, few_paths}
use Rattle.replay_gateway.proofs.machine.Machine.redirections.Goals as goal

pub loop-k-init : goal.loop-k-init
loop-k-init c = λ v is. c.new-messages.ensures.items

pub loop-k-preserved : goal.loop-k-preserved
loop-k-preserved c =
    asked_more _ _ _ _ _ _ _ _ _ c.loop-k.invariant c.in-Some.ensures
    (c.in_ok-push.ensures.items ∙ ap (λ m. c.loop-k.messages.items ++ m ∷ []) c.in_ok-message.ensures)

pub returns-in_default : goal.returns-in_default
returns-in_default c = λ setup g m stands runs near.
    asked_all _ _ _ _ _ _ _ c.loop-k.invariant c.in_default.ensures (book_there _ _ g m _ runs stands.site)
    ∙ asked_as c.args.place c.args.cause _ c.args.to g stands.redirects near

pub returns : goal.returns
returns c = λ setup g m stands runs near.
    let few = few_paths (λ book. c.a_book_is_within_the_limits.ensures.nodes (refl, refl) book) _ _ g m _ runs
    stands.site in
    asked_few _ _ _ _ _ _ _ c.loop-k.invariant (book_there _ _ g m _ runs stands.site) (omega arith)
    ∙ asked_as c.args.place c.args.cause _ c.args.to g stands.redirects near
