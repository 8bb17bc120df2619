use Rattle.node_session.proofs.SettledLemmas.{grows, has_closed, not_device}
use Rattle.node_session.proofs.settling.close.Goals as goal

pub returns-in-Made-clause-ok : goal.returns-in-Made-clause-ok
returns-in-Made-clause-ok g c =
    let old = c.args.book.now in let new = c.close.new.self in
    has_closed old new c.args.now c.args.who _ c.in-Made.ensures.closed
    (c.a_turn_owes.ensures.close old new _ c.args.now c.args.who c.in-Made.ensures.stays c.in-Made.ensures.cause
    c.in-Made.ensures.closed)
    (c.a_turn_owes.ensures.behind old new) c.requires
    (not_device _ _ c.in-Made.ensures.everywhere.0.device (λ not. absurd (cc not)))

pub returns-in-Made-clause-grows : goal.returns-in-Made-clause-grows
returns-in-Made-clause-grows g c =
    let old = c.args.book.now in let new = c.close.new.self in
    grows old new (c.a_turn_owes.ensures.close old new _ c.args.now c.args.who c.in-Made.ensures.stays c.in-Made.ensures.cause
    c.in-Made.ensures.closed)

pub returns-in-NotDue-clause-grows : goal.returns-in-NotDue-clause-grows
returns-in-NotDue-clause-grows g c =
    let old = c.args.book.now in let new = c.close.new.self in
    grows old new (c.a_turn_owes.ensures.close old new _ c.args.now c.args.who c.in-NotDue.ensures.stays c.in-NotDue.ensures.cause
    c.in-NotDue.ensures.closed)
