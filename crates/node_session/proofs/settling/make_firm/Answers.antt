use Rattle.std.proofs.Common.{None, refl}
use Rattle.node_session.proofs.SettledLemmas.{firmed, grows}
use Rattle.node_session.proofs.settling.make_firm.Goals as goal

pub returns-in-Ok-clause-ok : goal.returns-in-Ok-clause-ok
returns-in-Ok-clause-ok g c =
    let old = c.args.book.now in let new = c.commit.new.self in
    firmed old new _ c.in-Ok.ensures.left
    (c.a_turn_owes.ensures.commit old new _ None c.in-Ok.ensures.stays c.in-Ok.ensures.cause c.in-Ok.ensures.left) c.in-Ok.ensures.broken

pub returns-in-Ok-clause-grows : goal.returns-in-Ok-clause-grows
returns-in-Ok-clause-grows g c =
    let old = c.args.book.now in let new = c.commit.new.self in
    grows old new (c.a_turn_owes.ensures.commit old new _ None c.in-Ok.ensures.stays c.in-Ok.ensures.cause c.in-Ok.ensures.left)

pub returns-in-Err-clause-grows : goal.returns-in-Err-clause-grows
returns-in-Err-clause-grows g c =
    let old = c.args.book.now in let new = c.commit.new.self in
    grows old new (c.a_turn_owes.ensures.commit old new _ None c.in-Err.ensures.stays c.in-Err.ensures.cause c.in-Err.ensures.left)

pub returns-in-Err-clause-area : goal.returns-in-Err-clause-area
returns-in-Err-clause-area g c = (refl, c.in-Err.ensures.cause.broken c.in-Err.ensures.broken)
