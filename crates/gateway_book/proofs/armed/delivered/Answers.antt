use Rattle.gateway_book.proofs.Names.{prepared_of, size_of}
use Rattle.gateway_book.proofs.armed.delivered.Goals as goal

pub returns : goal.returns
returns g c = λ told fate header v armed at_last up.
    c.a_gateway_goes_as_armed.ensures.take told fate header v armed at_last c.args.book.now c.take.new.self c.take.result c.args.from (prepared_of c.args.request.now) (size_of c.args.book.now) c.args.now c.args.who up
    (c.take.ensures.taken told) c.take.ensures.stays c.take.ensures.planned
