use Rattle.gateway_book.specs.UpLaws.{up_reads, up_stays}
use Rattle.gateway_book.proofs.laws.a_gateway_stays_up_as_it_is_read.Goals as goal

pub returns-clause-runs : goal.returns-clause-runs
returns-clause-runs g c = λ fate header v armed at_last book up. up_reads fate header v armed at_last book up

pub returns-clause-up : goal.returns-clause-up
returns-clause-up g c = λ told fate header v armed at_last old new up same kept stands. up_stays fate header v armed at_last old new told up same kept stands
