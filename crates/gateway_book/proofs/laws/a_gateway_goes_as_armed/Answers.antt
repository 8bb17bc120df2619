use Rattle.gateway_book.proofs.Names.{close_mark, decided, given_at, history_of, left_by, marked_if_ready, tick_mark}
use Rattle.gateway_book.specs.UpLaws.{has_committed, has_readied, mark_keeps, taken_keeps}
use Rattle.gateway_book.proofs.laws.a_gateway_goes_as_armed.Goals as goal

pub returns-clause-commit : goal.returns-clause-commit
returns-clause-commit g c = λ told fate header v armed at_last old new result up left stays planned. has_committed told fate header v armed at_last old new up result left stays.header planned

pub returns-clause-take : goal.returns-clause-take
returns-clause-take g c = λ told fate header v armed at_last old new result from datagram size now who up left stays planned.
    has_readied told fate header v armed at_last old new up (λ r. left_by r now who (decided (given_at r from datagram size))) (λ r. taken_keeps from datagram size now who r) result left stays.header planned

pub returns-clause-tick : goal.returns-clause-tick
returns-clause-tick g c = λ told fate header v armed at_last old new result open_time size now who up left stays planned.
    has_readied told fate header v armed at_last old new up (λ r. marked_if_ready r now who (tick_mark open_time now (history_of r) size)) (λ r. mark_keeps r now who (tick_mark open_time now (history_of r) size)) result left stays.header
    planned

pub returns-clause-close : goal.returns-clause-close
returns-clause-close g c = λ told fate header v armed at_last old new result now who up left stays planned.
    has_readied told fate header v armed at_last old new up (λ r. marked_if_ready r now who (close_mark (history_of r))) (λ r. mark_keeps r now who (close_mark (history_of r))) result left stays.header planned
