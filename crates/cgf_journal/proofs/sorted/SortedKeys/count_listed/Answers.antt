use Rattle.std.proofs.Common.{◌≡◌, ℕ, ◌+◌, ◌<◌, ◌≤◌, Bool, List, [], ◌∷◌, ◌++◌, ap, sym, ◌∙◌, length, filter, subst, take, arith, rules}
use Rattle.cgf_journal.proofs.Names.{HeldKey, keys_of, NodeId, Release, Seal, slice_index_or, SortedKeys, stays_held, take_more}
use Rattle.cgf_journal.proofs.Changes.{none_named, AreBelow, none_below, one_below, one_more_gone}
use Rattle.cgf_journal.proofs.KeysLemmas.{counted_le}
use Rattle.cgf_journal.proofs.sorted.SortedKeys.count_listed.Goals as goal

pub loop-number-init : goal.loop-number-init
loop-number-init c = record {
  counted = omega (arith, ap (λ (l : List HeldKey). length l) (none_named c.args.node (keys_of c.args.firm c.args.self.now)));
  below = none_below;
}

-- one more number is counted
next : (s : SortedKeys) (firm : Bool) (node : NodeId) (numbers : List ℕ) (index least gone now : ℕ) → index < length numbers → AreBelow least (take index numbers) → least ≤ slice_index_or numbers index 0
    → gone + length (filter (λ (key : HeldKey). stays_held (Release node (take index numbers)) key) (keys_of firm s)) ≡ length (keys_of firm s)
    → now + length (filter (λ (key : HeldKey). stays_held (Seal node (slice_index_or numbers index 0)) key) (keys_of firm s)) ≡ length (keys_of firm s)
    → gone + now + length (filter (λ (key : HeldKey). stays_held (Release node (take (index + 1) numbers)) key) (keys_of firm s)) ≡ length (keys_of firm s)
next s firm node numbers index least gone now inside below le before here =
    ap (λ (xs : List ℕ). gone + now + length (filter (λ (key : HeldKey). stays_held (Release node xs) key) (keys_of firm s))) (take_more numbers index 0 inside)
    ∙ one_more_gone node (slice_index_or numbers index 0) least (take index numbers) below le (keys_of firm s) gone now before here

pub overflow_add-gone : goal.overflow_add-gone
overflow_add-gone c = search (rules, next, counted_le)

pub loop-number-preserved : goal.loop-number-preserved
loop-number-preserved c =
    let s = c.args.self.now in
    let i = c.loop-number.number-index in
    let x = slice_index_or c.args.numbers.now i 0 in
    let le : c.loop-number.least ≤ x = omega (arith, c.if-number-least.false) in
    let more : c.in_ok-least.least ≡ x + 1 = search rules in
    record {
      counted = next s c.args.firm c.args.node c.args.numbers.now i c.loop-number.least c.loop-number.gone c.count_one-gone.result c.loop-number-test.true c.loop-number.invariant.below le c.loop-number.invariant.counted c.count_one-gone.ensures;
      below =
          subst (λ (xs : List ℕ). AreBelow c.in_ok-least.least xs) (sym (take_more c.args.numbers.now i 0 c.loop-number-test.true))
          (subst (λ n. AreBelow n (take i c.args.numbers.now ++ x ∷ [])) (sym more) (one_below c.loop-number.least (take i c.args.numbers.now) x c.loop-number.invariant.below le));
    }
