use Rattle.gateway_answer.proofs.FilingLemmas.{IsFiledSoFar}
use Rattle.gateway_answer.proofs.filing.filed.Given as goal

abbrev pub invariant-loop-place : goal.invariant-loop-place
invariant-loop-place l = IsFiledSoFar l.history l.place l.records.items
