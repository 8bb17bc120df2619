use Rattle.std.proofs.Common.{arith, inl, refl}
use Rattle.node_session.proofs.Names.{knowledge, tells_lists}
use Rattle.node_session.proofs.AskingLemmas.{learns_asked, learns_at_once}
use Rattle.node_session.proofs.asking.ask.Goals as goal

pub returns-then-front-seen-clause-asked : goal.returns-then-front-seen-clause-asked
returns-then-front-seen-clause-asked g c =
    record { seen = c.seen-seen.result.0; looked = knowledge c.seen-seen.result.1; saw = c.seen-seen.ensures.saw; ends = inl (c.if-front-seen.true, refl, refl) }

pub returns-then-front-seen-clause-learns : goal.returns-then-front-seen-clause-learns
returns-then-front-seen-clause-learns g c = λ t has is.
    learns_at_once (tells_lists g.A.Area) c.args.front c.args.faults c.seen-seen.result.0 t (knowledge c.args.pass) (knowledge c.seen-seen.result.1) is c.if-front-seen.true c.seen-seen.ensures.saw has

pub returns-clause-learns : goal.returns-clause-learns
returns-clause-learns g c = λ t has is.
    learns_asked g.A.Area c.args.front c.args.faults c.seen-seen.result.0 t (knowledge c.args.pass) (knowledge c.seen-seen.result.1)
    (knowledge c.with.result.1) c.with.result.0 (let few = c.ranges.faults in omega (arith, few)) is c.seen-seen.ensures.saw has c.with.ensures.took
