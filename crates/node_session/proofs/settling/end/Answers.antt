use Rattle.std.proofs.lemmas.Result.{on_ok_weaker}
use Rattle.node_session.proofs.SettledLemmas.{grows_then, settled}
use Rattle.node_session.proofs.settling.end.Goals as goal

pub returns-in_err-close-clause-grows : goal.returns-in_err-close-clause-grows
returns-in_err-close-clause-grows g c =
    grows_then c.args.book.now c.make_firm.new.book c.close.new.book c.make_firm.ensures.grows c.close.ensures.grows

pub returns-clause-grows : goal.returns-clause-grows
returns-clause-grows g c =
    grows_then c.args.book.now c.close.new.book c.make_firm-2.new.book
    (grows_then c.args.book.now c.make_firm.new.book c.close.new.book c.make_firm.ensures.grows c.close.ensures.grows) c.make_firm-2.ensures.grows

pub returns-clause-ok : goal.returns-clause-ok
returns-clause-ok g c =
    on_ok_weaker _ (settled c.args.book.now c.make_firm.new.book c.close.new.book c.make_firm-2.new.book c.args.now c.args.who c.in_ok-make_firm.ensures.ok c.in_ok-close.ensures.ok)
    c.make_firm-2.ensures.ok
