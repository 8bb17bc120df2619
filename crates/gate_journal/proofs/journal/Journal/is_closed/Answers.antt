use Rattle.std.proofs.Common.{rules}
use Rattle.gate_journal.specs.Journal.{stop_stands, torn_stands}
use Rattle.gate_journal.proofs.States.{closed_as_torn, keeps_by_gate, rests, settled, stands_as_new}
use Rattle.gate_journal.proofs.journal.Journal.is_closed.Goals as goal

pub returns-in-Founded : goal.returns-in-Founded
unfolding stop_stands torn_stands
returns-in-Founded g c = search (rules, closed_as_torn, settled, rests, stands_as_new, keeps_by_gate)

pub returns-in-Founding-clause-rests : goal.returns-in-Founding-clause-rests
returns-in-Founding-clause-rests g c = search (rules, rests)

pub returns-in-Founding-clause-torn : goal.returns-in-Founding-clause-torn
returns-in-Founding-clause-torn g c = λ fate. search (rules, stands_as_new)

pub returns-in-Founding-clause-stop : goal.returns-in-Founding-clause-stop
unfolding stop_stands
returns-in-Founding-clause-stop g c = λ fate told outcome. search (rules, keeps_by_gate)
