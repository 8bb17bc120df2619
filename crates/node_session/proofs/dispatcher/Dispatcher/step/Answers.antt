use Rattle.std.proofs.Common.{ℕ, List, Ok, rules, take, ap, ◌∙◌, refl}
use Rattle.std.proofs.lemmas.List.{take_at}
use Rattle.node_session.proofs.PushedLemmas.{told_of}
use Rattle.node_session.proofs.dispatcher.Dispatcher.step.Goals as goal

pub dispatch-requires-clause-count : goal.dispatch-requires-clause-count
dispatch-requires-clause-count g c = (c.receive.ensures.datagram _ _ (c.in-Ok-Datagram.is ∙ ap (λ h. Ok h) c.in-Ok-Datagram.field-0-is)).0

pub returns-in-Ok-Datagram-clause-tells : goal.returns-in-Ok-Datagram-clause-tells
returns-in-Ok-Datagram-clause-tells g c =
    told_of c.args.inboxes.now c.args.self.now _ c.dispatch.new.self (g.L.Link.state c.args.link.now) (g.L.Link.state c.receive.new.self) _ _
    c.in-Ok-Datagram.from _ _ refl refl
    (c.receive.ensures.datagram _ _ (c.in-Ok-Datagram.is ∙ ap (λ h. Ok h) c.in-Ok-Datagram.field-0-is)).1 c.dispatch.result c.dispatch.ensures.comes
    (ap (λ (xs : List ℕ). take c.in-Ok-Datagram.length xs) (take_at c.receive.new.into _ _ (search rules)))
