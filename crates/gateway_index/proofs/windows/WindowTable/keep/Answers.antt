use Rattle.std.proofs.Common.{arith, rules}
use Rattle.gateway_index.proofs.PairLemmas.{kept_around, kept_same, same_behind}
use Rattle.gateway_index.proofs.windows.WindowTable.keep.Goals as goal

pub invariant_of-self : goal.invariant_of-self
invariant_of-self c =
    let old = c.args.self.now in
    let same = kept_same (kept_around (λ k low. old.before k (omega (arith, low, c.min-from.ensures)))
    (same_behind old.pairs.items (omega (arith, c.min-end.ensures, c.len.ensures)) old.behind) c.keep_from.ensures) in
    record { before = λ k low. same k; behind = λ k past. same k }

pub returns-clause-kept : goal.returns-clause-kept
returns-clause-kept c = search (rules, kept_around, same_behind)
