use Rattle.std.proofs.Common.{None}
use Rattle.gateway_book.proofs.HeldCopiesLemmas.{with_one}
use Rattle.gateway_book.proofs.held_copies.forget.Goals as goal

pub returns : goal.returns
returns c = with_one c.args.holds.now c.remove.new.self c.args.node c.args.number None c.remove.ensures.updates
