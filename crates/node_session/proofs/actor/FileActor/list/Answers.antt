use Rattle.std.proofs.Common.{sym, ◌∙◌}
use Rattle.turn_cell.specs.Cell.{knowledge}
use Rattle.node_session.proofs.GivenLemmas.{lists_at}
use Rattle.node_session.proofs.actor.FileActor.list.Goals as goal

pub returns-clause-lists : goal.returns-clause-lists
returns-clause-lists g c =
    lists_at g.A.Area 64 (λ items. items.items) c.with-listed.result.0 (knowledge c.with-listed.result.1) c.args.self.now.pass c.in-Some.pass
    (sym c.take.ensures.value ∙ c.in-Some.is) _ _ c.taken-from.ensures c.with-listed.ensures.took
