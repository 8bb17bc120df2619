use Rattle.std.proofs.Common.{ap, sym, ◌∙◌, List}
use Rattle.once_core.proofs.Names.{Gateway, HistoryEntry, is_expired}
use Rattle.once_core.proofs.GatewayTurnLemmas.{delivers, ok_maps, stored}
use Rattle.once_core.proofs.gateway.KeptGateway.deliver.Goals as goal

pub returns : goal.returns
returns c =
    ok_maps c.answer.result
    (delivers c.args.now c.args.message.now c.args.self.now _ c.answer.new.self c.args.sends.now.items _ c.answer.new.sends.items
    (ap (λ (g : Gateway). g.book.is_broken) (sym c.self.view_is))
    (ap (λ (g : Gateway). g.is_down) (sym c.self.view_is) ∙ c.if-self.false)
    (ap (λ (h : List HistoryEntry). is_expired h c.args.message.now)
    (sym (stored c.self.inside c.self.view_is c.deref.ensures.value))
    ∙ (sym c.is_expired.ensures ∙ c.if-is_expired.false))
    c.in_ok-ready.ensures)
    c.answer.ensures
