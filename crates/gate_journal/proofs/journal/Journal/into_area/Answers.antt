use Rattle.gate_journal.specs.Journal.{stop_stands}
use Rattle.gate_journal.proofs.States.{keeps_by_gate, rests}
use Rattle.gate_journal.proofs.journal.Journal.into_area.Goals as goal

pub returns-clause-rests : goal.returns-clause-rests
returns-clause-rests g c =
    rests g.A.Area c.area_laws.ensures c.args.self

pub returns-clause-stop : goal.returns-clause-stop
unfolding stop_stands
returns-clause-stop g c = λ fate told outcome.
    keeps_by_gate g.A.Area c.area_laws.ensures c.args.self told _ (c.area_laws.ensures.may_stop c.args.self.area outcome fate)
