use Rattle.std.proofs.Common.{refl, sym, ◌∙◌}
use Rattle.gateway_book.specs.Book.{area_of}
use Rattle.gateway_book.proofs.Causing.{cause_same}
use Rattle.gateway_book.proofs.Leaving.{crash_fit}
use Rattle.gateway_book.proofs.book.Book.firm_up.Goals as goal

pub returns-then-is_empty-clause-any_moment : goal.returns-then-is_empty-clause-any_moment
returns-then-is_empty-clause-any_moment g c = λ told.
    let laws = g.met.A.Area in
    crash_fit laws.same_size laws.same_size_since c.args.self.now (area_of c.args.self.now) told refl (c.is_closed.ensures.rests.still told)

pub returns-then-is_empty-clause-cause : goal.returns-then-is_empty-clause-cause
returns-then-is_empty-clause-cause g c = cause_same c.args.self.now (sym c.is_closed.ensures.closed ∙ c.if-is_closed.false)
