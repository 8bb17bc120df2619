use Rattle.std.proofs.Common.{ap, sym, subst, ◌∙◌, arith, length-take}
use Rattle.once_core.proofs.GatewayTurnLemmas.{are_left, cuts}
use Rattle.once_core.proofs.HistoryKeptLemmas.{kept_take}
use Rattle.once_core.proofs.Names.{AllKept, cut, Gateway}
use Rattle.once_core.proofs.gateway.KeptGateway.cut.Goals as goal

pub invariant_of-self : goal.invariant_of-self
invariant_of-self c = record {
  firm = rw c.truncate.ensures.items (omega (arith, length-take c.max-left.result c.self.inside.history.items, c.self.invariant.firm, c.max-left.ensures));
  entries = subst AllKept (sym c.truncate.ensures.items) (kept_take c.max-left.result c.self.inside.history.items c.self.invariant.entries);
}

pub returns : goal.returns
returns c =
    cuts c.self.inside.history.items c.truncate.new.self.items c.self.inside.firm c.args.keep c.max-left.result c.give_up.new.answers.items c.self.inside.waiting.items
    c.self.inside.is_down c.self.inside.redirects c.truncate.ensures.items c.give_up.ensures
    (are_left c.self.inside.history.items c.self.inside.firm c.args.keep c.max-left.result c.self.invariant.firm
    (omega (arith, c.max-left.ensures, c.min.ensures, c.len-all.ensures, c.self.inside.history.ok)))
    ∙ ap (λ (g : Gateway). cut c.args.keep g) c.self.view_is
