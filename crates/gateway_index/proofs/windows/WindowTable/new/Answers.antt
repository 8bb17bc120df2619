use Rattle.gateway_index.proofs.PairLemmas.{blank_same}
use Rattle.gateway_index.proofs.windows.WindowTable.new.Goals as goal

pub invariant_of-result : goal.invariant_of-result
invariant_of-result c = record {
  before = λ k low. blank_same _ _ c.in_ok-pairs.ensures k;
  behind = λ k past. blank_same _ _ c.in_ok-pairs.ensures k;
}
