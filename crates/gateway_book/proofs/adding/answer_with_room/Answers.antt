use Rattle.gateway_book.proofs.AddingLemmas.{may_add}
use Rattle.gateway_book.proofs.adding.answer_with_room.Goals as goal

pub conclude-requires-clause-may_come : goal.conclude-requires-clause-may_come
conclude-requires-clause-may_come g c = may_add c.args.trail.now c.args.index.now c.args.moment c.args.who c.args.from _ _ c.propose-decision.ensures c.requires.prepared.0 c.requires.prepared.1 c.requires.free
