use Rattle.std.proofs.Common.{refl}
use Rattle.loop_run.proofs.BookLemmas.{has_committed}
use Rattle.loop_run.proofs.books.commit.Goals as goal

pub returns : goal.returns
returns c = has_committed c.args.book c.commit.new.self c.length-length.ensures.sound.cut c.commit.ensures.stays
    c.in-Ok.ensures.broken (c.in-Ok.ensures.left (refl, refl)).value
