use Rattle.std.proofs.Common.{Some}
use Rattle.gateway_book.proofs.HeldCopiesLemmas.{with_one}
use Rattle.gateway_book.proofs.held_copies.hold.Goals as goal

pub returns-in-Ok-clause-ok : goal.returns-in-Ok-clause-ok
returns-in-Ok-clause-ok c = with_one c.args.holds.now c.insert.new.self c.args.node c.args.number (Some c.args.k) c.in-Ok.ensures.updates
