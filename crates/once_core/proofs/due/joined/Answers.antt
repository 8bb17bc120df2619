use Rattle.std.proofs.Common.{◌∙◌, ap, sym, [], ◌∷◌, ◌++◌, List, append_assoc, append-nil, rules, map-id}
use Rattle.once_core.proofs.Names.{Message, YieldsList-end, YieldsList-from_vec}
use Rattle.once_core.proofs.due.joined.Goals as goal

pub loop-message-init : goal.loop-message-init
loop-message-init c = sym (append-nil c.args.first.items)

pub loop-message-preserved : goal.loop-message-preserved
loop-message-preserved c =
    c.in_ok-push.ensures.items ∙ ap (λ (ms : List Message). ms ++ c.in-Some.message ∷ []) c.loop-message.invariant
    ∙ append_assoc c.args.first.items c.loop-message.yielded (c.in-Some.message ∷ [])

pub returns : goal.returns
returns c =
    let end = YieldsList-end (YieldsList-from_vec {s = c.into_iter-message-iterator.result} c.args.later.items
    (search rules) (search rules)) c.loop-message.yielded c.loop-message.message-iterator c.loop-message.yielded_by
    c.next.result c.next.new.self c.in-None.is c.next.ensures.steps in
    rw (← end.0, map-id) c.loop-message.invariant
