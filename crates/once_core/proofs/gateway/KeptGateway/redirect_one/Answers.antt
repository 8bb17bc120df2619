use Rattle.std.proofs.Common.{◌++◌, ◌<◌, ap, sym, subst, ◌∙◌, List}
use Rattle.once_core.proofs.Names.{AllKept, Gateway, HistoryEntry, Message, redirection, start_of}
use Rattle.once_core.proofs.RedirectLemmas.{redirects_one}
use Rattle.once_core.proofs.gateway.KeptGateway.redirect_one.Goals as goal
use Rattle.once_core.proofs.GatewayTurnLemmas.{stored}

pub returns : goal.returns
returns c =
    c.in_ok-push.ensures.items
    ∙ ap (λ (ms : List Message). c.args.sends.now.items ++ ms)
    (redirects_one c.args.gateway c.args.cause c.args.to c.args.self.now c.deref.result.now c.args.node c.in-Some.opening c.node_at.result c.port_at.result c.start.result
    c.from.result c.in_ok-of.field-0
    (stored c.self.inside c.self.view_is c.deref.ensures.value)
    (subst AllKept (sym c.deref.ensures.value) c.self.invariant.entries)
    (sym c.opening.ensures ∙ c.in-Some.is)
    c.node_at.ensures c.port_at.ensures
    (c.start.ensures ∙ ap (λ (h : List HistoryEntry). start_of c.args.node.0 h) (c.deref-2.ensures.value ∙ sym c.deref.ensures.value))
    (c.in_ok-of.ensures ∙ (c.octets.ensures ∙ (c.redirection.ensures.octets ∙ ap (λ (g : Gateway). redirection g.redirects c.args.cause c.args.to) c.self.view_is)))
    (subst (λ (g : Gateway). g.redirects < 65536) c.self.view_is c.redirection.ensures.low)
    (c.from.ensures ∙ ap (λ (g : Gateway). g.redirects) c.self.view_is))
