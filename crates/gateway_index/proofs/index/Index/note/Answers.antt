use Rattle.std.proofs.Common.{true, rules}
use Rattle.gateway_index.proofs.IndexLemmas.{follows_after, follows_same}
use Rattle.gateway_index.proofs.index.Index.note.Goals as goal

pub returns-clause-follows : goal.returns-clause-follows
returns-clause-follows c = search (rules, follows_after)

pub returns-clause-firm : goal.returns-clause-firm
returns-clause-firm c = λ h. follows_same true true c.args.self.now c.step.new.self c.step.ensures.firm h
