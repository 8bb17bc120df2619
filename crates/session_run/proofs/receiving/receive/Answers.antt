use Rattle.std.proofs.Common.{ℕ}
use Rattle.session_run.specs.Reception.{CountsTurns}
use Rattle.session_run.proofs.TeamLemmas.{if_turns}
use Rattle.session_run.proofs.receiving.receive.Goals as goal
use Rattle.session_run.proofs.receiving.receive.Goals.{in-Turns, in-QuietAfter}

pub returns-clause-turns : goal.returns-clause-turns
returns-clause-turns g c =
    let P : ℕ → Type 0 = λ n. CountsTurns g.L.Link n c.args.reception → CountsTurns g.L.Link n c.match-until.reception in
    elim c.match-until.branch [
      | in-Turns w ↦ if_turns c.args.until.now P
          (λ n counts. rw w.reception-is (w.receive_turns-reception.ensures.turns n counts))
      | in-QuietAfter w ↦ rw w.in-QuietAfter.is tt
    ]
