use Rattle.gateway_book.specs.BrokenLaws.{broken_alone_tells}
use Rattle.gateway_answer.specs.FaultLaws.{running_tells_none}
use Rattle.gateway_book.proofs.laws.only_a_broken_gateway_tells_a_fault.Goals as goal

pub returns-clause-running : goal.returns-clause-running
returns-clause-running c = λ o from octets may. running_tells_none o from octets may

pub returns-clause-broken : goal.returns-clause-broken
returns-clause-broken c = λ ready from octets size tells. broken_alone_tells ready from octets size tells
