use Rattle.std.proofs.Common.{ap, ◌∙◌, arith}
use Rattle.once_core.proofs.Names.{Gateway, history_of, standing_for}
use Rattle.once_core.proofs.GatewayTurnLemmas.{all_firm, ok_maps, opens}
use Rattle.once_core.proofs.gateway.KeptGateway.open.Goals as goal

pub returns : goal.returns
returns c =
    ok_maps c.start.result
    (opens c.args.self.now _ c.start.new.self
    (all_firm c.self.inside.history.items c.self.inside.firm c.len-self-inside.result (omega (arith, c.len-self-inside.ensures, c.self.inside.history.ok))
    ∙ ap (λ (g : Gateway). standing_for (history_of g.book)) c.self.view_is))
    (rw c.new.ensures.items at c.start.ensures)
