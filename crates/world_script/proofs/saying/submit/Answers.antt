use Rattle.std.proofs.Common.{arith}
use Rattle.world_script.proofs.ArityLemmas.{submit_more}
use Rattle.world_script.proofs.saying.submit.Goals as goal

pub returns : goal.returns
returns c = search (arith, submit_more)
