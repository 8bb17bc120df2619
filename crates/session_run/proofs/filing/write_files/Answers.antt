use Rattle.session_run.proofs.filing.write_files.Goals as goal
use Rattle.session_run.proofs.filing.write_files.Goals.{in-None, in-Some+then-not-has_taken+then-is_last}

pub loop-preserved-then-not-has_taken : goal.loop-preserved-then-not-has_taken
loop-preserved-then-not-has_taken g c =
    let e = c.write_next-has_taken.ensures in
    record { own = e.own; writer = e.writer; written = λ began first w. e.written began first (c.loop.invariant.written began first w) }

pub loop-preserved : goal.loop-preserved
loop-preserved g c =
    let e = c.write_next-has_taken.ensures in
    record { own = e.own; writer = e.writer; written = λ began first w. e.written began first (c.loop.invariant.written began first w) }

pub returns-clause-written : goal.returns-clause-written
returns-clause-written g c = λ began first w.
    let before = c.loop.invariant.written began first w in
    elim c.match-next.branch [
      | in-None v ↦ rw v.actor-is before
      | in-Some+then-not-has_taken+then-is_last v ↦ rw v.actor-is
          (v.write_next-has_taken.ensures.written began first before)
    ]
