use Rattle.gateway_book.specs.Turning.{tells_lists}
use Rattle.session_run.proofs.TakingLemmas.{is_still, none_taken, none_to_take}
use Rattle.session_run.proofs.desks.take_all.Goals as goal
use Rattle.session_run.proofs.desks.take_all.Goals.{in-None, in-Some+then-not-first+then-not-second}

pub loop-init : goal.loop-init
loop-init g c =
    let a = c.clear-a.ensures in
    let b = c.clear-b.ensures in
    let told = tells_lists g.A.Area in
    record {
      own = (is_still c.args.desks.0 c.clear-a.result a.rest a.none.0 a.none.1 c.args.cell.now c.args.one.now c.requires.own.0, is_still c.args.desks.1 c.clear-b.result b.rest b.none.0 b.none.1 c.args.cell.now c.args.two.now c.requires.own.1);
      taken = (none_to_take c.args.desks.0 c.clear-a.result a.rest a.none.0 a.none.1 told, none_to_take c.args.desks.1 c.clear-b.result b.rest b.none.0 b.none.1 told);
      takes = (none_taken c.args.desks.0 c.clear-a.result a.rest a.none.0 a.none.1 g.A.Area, none_taken c.args.desks.1 c.clear-b.result b.rest b.none.0 b.none.1 g.A.Area);
    }

pub loop-preserved : goal.loop-preserved
loop-preserved g c =
    let one = c.take_next-first.ensures in
    let two = c.take_next-second.ensures in
    let now = c.loop.invariant in
    record {
      own = (one.own, two.own);
      taken = (one.taken, two.taken);
      takes = (one.takes c.args.desks.0 now.takes.0, two.takes c.args.desks.1 now.takes.1);
    }

pub returns-clause-takes : goal.returns-clause-takes
returns-clause-takes g c =
    let now = c.loop.invariant.takes in
    elim c.match-next.branch [
      | in-None w ↦ rw w.a-is (rw w.b-is now)
      | in-Some+then-not-first+then-not-second w ↦ rw w.a-is (rw w.b-is
          (w.take_next-first.ensures.takes c.args.desks.0 now.0, w.take_next-second.ensures.takes c.args.desks.1 now.1))
    ]
