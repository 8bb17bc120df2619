use Rattle.std.proofs.Common.{refl, sym, ◌∙◌}
use Rattle.gateway_book.specs.Book.{area_of}
use Rattle.gateway_book.proofs.Causing.{cause_same}
use Rattle.gateway_book.proofs.Leaving.{crash_fit}
use Rattle.gateway_book.proofs.book.Book.ready.Goals as goal

pub returns-clause-any_moment : goal.returns-clause-any_moment
returns-clause-any_moment g c = λ told.
    let laws = g.met.A.Area in
    crash_fit laws.same_size laws.same_size_since c.args.self.now (area_of c.args.self.now) told refl (c.is_closed.ensures.rests.still told)

pub returns-clause-cause : goal.returns-clause-cause
returns-clause-cause g c = cause_same c.args.self.now (sym c.is_closed.ensures.closed ∙ c.if-is_closed.false)
