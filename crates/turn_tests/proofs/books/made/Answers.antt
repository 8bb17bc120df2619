use Rattle.turn_tests.proofs.BookTurns.{begun_with}
use Rattle.turn_tests.proofs.books.made.Goals as goal

pub both-a-requires : goal.both-a-requires
both-a-requires g c = begun_with c.in-Ok.cell _ _ c.in-Ok.passes.items c.in-Ok.ensures.cell.1 c.in-Ok.ensures.passes
