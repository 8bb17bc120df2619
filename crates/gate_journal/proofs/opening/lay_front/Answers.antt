use Rattle.std.proofs.Common.{rules}
use Rattle.gate_journal.proofs.Turns.{length-rest}
use Rattle.gate_journal.proofs.Laying.{laid_blank, laid_gate, torn_blank, torn_gate, on_ok}
use Rattle.gate_journal.proofs.Names.{length-append, widen}
use Rattle.gate_journal.proofs.opening.lay_front.Goals as goal

pub returns-then-blank-clause-laid : goal.returns-then-blank-clause-laid
returns-then-blank-clause-laid g c = λ told. search (rules, on_ok, laid_blank)

pub returns-then-blank-clause-any_moment : goal.returns-then-blank-clause-any_moment
returns-then-blank-clause-any_moment g c = λ told only. search (rules, length-append, length-rest, widen, torn_blank)

pub returns-else-blank-clause-laid : goal.returns-else-blank-clause-laid
returns-else-blank-clause-laid g c = λ told. search (rules, on_ok, laid_gate)

pub returns-else-blank-clause-any_moment : goal.returns-else-blank-clause-any_moment
returns-else-blank-clause-any_moment g c = λ told only. search (rules, widen, torn_gate)
