use Rattle.gateway_book.proofs.armed.committed.Goals as goal

pub returns : goal.returns
returns g c = λ told fate header v armed at_last up.
    c.a_gateway_goes_as_armed.ensures.commit told fate header v armed at_last c.args.book.now c.commit.new.self c.commit.result up (c.commit.ensures.left told) c.commit.ensures.stays c.commit.ensures.planned
