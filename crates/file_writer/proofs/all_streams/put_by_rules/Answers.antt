use Rattle.std.proofs.Common.{arith}
use Rattle.file_writer.proofs.AllLemmas.{goes_to}
use Rattle.file_writer.proofs.all_streams.put_by_rules.Goals as goal

pub returns-clause-takes : goal.returns-clause-takes
returns-clause-takes g c = search (arith, c.put_one.ensures.takes, goes_to)
