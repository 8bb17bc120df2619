use Rattle.session_run.proofs.TeamLemmas.{pair_then}
use Rattle.session_run.proofs.desks.work.Goals as goal
use Rattle.session_run.proofs.desks.work.Goals.{in-None, in-Some+then-is_stopped, in-Some+else-is_stopped+else-is_some+else-served+then-is_last}

pub loop-preserved-then-is_some : goal.loop-preserved-then-is_some
loop-preserved-then-is_some g c =
    let e = c.serve_next-served.ensures in record { own = e.own; worked = pair_then c.loop.invariant.worked e.worked }

pub loop-preserved-then-served : goal.loop-preserved-then-served
loop-preserved-then-served g c =
    let e = c.serve_next-served.ensures in record { own = e.own; worked = pair_then c.loop.invariant.worked e.worked }

pub loop-preserved : goal.loop-preserved
loop-preserved g c =
    let e = c.serve_next-served.ensures in record { own = e.own; worked = pair_then c.loop.invariant.worked e.worked }

pub returns-clause-worked : goal.returns-clause-worked
returns-clause-worked g c =
    let before = c.loop.invariant.worked in
    elim c.match-next.branch [
      | in-None v ↦ rw v.desks-is before
      | in-Some+then-is_stopped v ↦ rw v.desks-is before
      | in-Some+else-is_stopped+else-is_some+else-served+then-is_last v ↦ rw v.desks-is
          (pair_then before v.serve_next-served.ensures.worked)
    ]
