use Rattle.std.proofs.Common.{◌∙◌}
use Rattle.gateway_book.specs.Book.{area_of}
use Rattle.gateway_book.proofs.Leaving.{leaves_fit}
use Rattle.gateway_book.proofs.book.Book.is_broken.Goals as goal

pub returns-clause-leaves : goal.returns-clause-leaves
returns-clause-leaves g c =
    let laws = g.met.A.Area in
    let book = c.args.self.now in
    leaves_fit book (λ told e. c.is_closed.ensures.settled told (c.is_closed.ensures.closed ∙ e)) c.is_closed.ensures.rests (λ fate told outcome. c.is_closed.ensures.stop fate told outcome) book.followed.fit
    (λ o crash may. laws.same_size (area_of book) o crash may) (λ outcome fate. laws.may_stop (area_of book) outcome fate) (λ fate. laws.stops_new (area_of book) fate)
