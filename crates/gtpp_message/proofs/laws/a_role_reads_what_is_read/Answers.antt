use Rattle.gtpp_message.proofs.RoleLemmas.{role_beside}
use Rattle.gtpp_message.proofs.laws.a_role_reads_what_is_read.Goals as goal

pub returns : goal.returns
returns c = role_beside
