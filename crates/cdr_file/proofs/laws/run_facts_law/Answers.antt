use Rattle.cdr_file.proofs.RunLemmas.{facts_more, facts_one}
use Rattle.cdr_file.proofs.laws.run_facts_law.Goals as goal

pub returns : goal.returns
returns c = record { first = facts_one; more = facts_more }
