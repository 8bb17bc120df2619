use Rattle.gateway_book.proofs.Names.{close_mark, fortune_of, history_of, readied, tick_mark, value_of}
use Rattle.gateway_book.proofs.TurnLemmas.{committed_turn, failed_none, marked_turn, read_turn, readied_behind, readied_turn, taken_turn}
use Rattle.gateway_book.proofs.laws.a_turn_owes.Goals as goal

pub returns-clause-ready : goal.returns-clause-ready
returns-clause-ready g c = λ old new session stays cause moved. readied_turn old new stays cause session moved

pub returns-clause-commit : goal.returns-clause-commit
returns-clause-commit g c = λ old new result session stays cause left. committed_turn old new stays cause session (λ told. (left told).value)

pub returns-clause-take : goal.returns-clause-take
returns-clause-take g c = λ old new result from datagram size now who stays cause left. taken_turn old new stays cause from datagram size now who (λ told. (left told).value)

pub returns-clause-tick : goal.returns-clause-tick
returns-clause-tick g c = λ old new result open_time size now who stays cause left.
    marked_turn old new stays cause now who (tick_mark open_time now (history_of (readied (fortune_of old new) (value_of old))) size) (λ told. (left told).value)

pub returns-clause-close : goal.returns-clause-close
returns-clause-close g c = λ old new result now who stays cause left.
    marked_turn old new stays cause now who (close_mark (history_of (readied (fortune_of old new) (value_of old)))) (λ told. (left told).value)

pub returns-clause-items : goal.returns-clause-items
returns-clause-items g c = λ old new session same later. read_turn old new session same later

pub returns-clause-behind : goal.returns-clause-behind
returns-clause-behind g c = λ old new runs. readied_behind old new runs

pub returns-clause-failed : goal.returns-clause-failed
returns-clause-failed g c = λ ready from datagram size broken. failed_none ready from datagram size broken
