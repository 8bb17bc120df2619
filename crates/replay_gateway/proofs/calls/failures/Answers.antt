use Rattle.std.proofs.Common.{◌∙◌, sym, ap, [], ◌∷◌, ◌++◌, if◌then◌else◌, rules, map-id}
use Rattle.std.proofs.lemmas.Iterator.Adapters.{YieldsList-from_vec}
use Rattle.std.proofs.lemmas.Iterator.Consumers.{YieldsList-end}
use Rattle.once_core.specs.Messages.{failing, is_response}
use Rattle.replay_gateway.proofs.ListLemmas.{picked}
use Rattle.replay_gateway.proofs.calls.failures.Goals as goal

pub loop-w-preserved : goal.loop-w-preserved
loop-w-preserved c =
    c.in_ok-fail.ensures
    ∙ ap (λ ms. ms ++ (if is_response c.in-Some.w.message then failing c.in-Some.w.message ∷ [] else []))
    c.loop-w.invariant ∙ sym (picked (λ w. is_response w.message) (λ w. failing w.message) c.loop-w.yielded c.in-Some.w)

pub returns : goal.returns
returns c =
    let end = YieldsList-end (YieldsList-from_vec {s = c.into_iter-w-iterator.result} c.args.waiting.items (search rules)
    (search rules)) c.loop-w.yielded c.loop-w.w-iterator c.loop-w.yielded_by c.next.result c.next.new.self c.in-None.is
    c.next.ensures.steps in
    rw (← end.0, map-id) c.loop-w.invariant
