use Rattle.gateway_book.proofs.HeldCopiesLemmas.{with_last}
use Rattle.gateway_book.proofs.held_copies.follow.Goals as goal

pub returns-in-Ok-clause-ok : goal.returns-in-Ok-clause-ok
returns-in-Ok-clause-ok c = with_last c.args.paths.now c.insert.new.self c.args.node c.args.k c.in-Ok.ensures.updates
