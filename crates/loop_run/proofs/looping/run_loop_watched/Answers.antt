use Rattle.std.proofs.Common.{refl, arith}
use Rattle.loop_run.proofs.CanLemmas.{all_ran_can, all_sit_can}
use Rattle.loop_run.proofs.EndsLemmas.{collected_of, ends_finished}
use Rattle.loop_run.proofs.looping.run_loop_watched.Goals as goal

pub collect-left-requires-clause-seats : goal.collect-left-requires-clause-seats
collect-left-requires-clause-seats g c = all_sit_can g.L.Link.Link c.args.setup _ _
    c.make_all-seats.ensures.has.known _ refl c.make_all-seats.ensures.has.sit

pub collect-looped-requires-clause-seats : goal.collect-looped-requires-clause-seats
collect-looped-requires-clause-seats g c = all_ran_can g.L.Link.Link c.args.setup _ _
    c.make_all-seats.ensures.has.known _ c.run_seats-seats.ensures.count c.run_seats-seats.ensures.ran

pub finish-requires : goal.finish-requires
finish-requires g c =
    let has = collected_of g.L.Link.Link c.args.setup _ _ _ _ c.run_seats-seats.result.items _
    c.collect-looped.result c.make_all-seats.ensures
    c.in_default.is c.requires.turns c.run_seats-seats.ensures.ran c.run_seats-seats.ensures.count
    c.collect-looped.ensures.collected c.in-None.is in
    let count = has.hands.node_count in
    let most = c.requires.within.most_nodes in
    record { firm = has.firm; kept = has.kept; few = omega (arith, count, most) }

pub returns-in-None-clause-ends : goal.returns-in-None-clause-ends
returns-in-None-clause-ends g c =
    let has = collected_of g.L.Link.Link c.args.setup _ _ _ _ c.run_seats-seats.result.items _
    c.collect-looped.result c.make_all-seats.ensures
    c.in_default.is c.requires.turns c.run_seats-seats.ensures.ran c.run_seats-seats.ensures.count
    c.collect-looped.ensures.collected c.in-None.is in
    ends_finished c.args.setup _ _ _ (c.make_all-seats.ensures.all c.in_default.is).1 c.collect-looped.result has
    c.finish.result.1 c.finish.result.0 c.finish.ensures
