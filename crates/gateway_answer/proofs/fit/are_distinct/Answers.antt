use Rattle.std.proofs.Common.{◌≡◌, ℕ, ◌-◌, ◌<◌, ◌==◌, true, false, List, drop, sym, ap, ◌∙◌, arith}
use Rattle.gateway_answer.proofs.Names.{list_any, slice_index_or}
use Rattle.gateway_answer.proofs.FitLemmas.{differ_on, same_here, within_on}
use Rattle.gateway_answer.proofs.fit.are_distinct.Goals as goal

pub returns-then-is_among : goal.returns-then-is_among
returns-then-is_among c =
    let k = c.loop-k.k in
    let x = slice_index_or c.args.numbers.now (k - 1) 0 in
    let found : list_any (λ (y : ℕ). y == x) (drop k c.args.numbers.now) ≡ true =
    ap (λ (xs : List ℕ). list_any (λ (y : ℕ). y == x) xs) (sym c.split_at.ensures.back) ∙ sym c.is_among.ensures ∙ c.if-is_among.true in
    sym (same_here c.args.numbers.now k 0 (omega (arith, c.loop-k-test.true)) c.loop-k.invariant.inside found)

pub loop-k-preserved : goal.loop-k-preserved
loop-k-preserved c =
    let k = c.loop-k.k in
    let x = slice_index_or c.args.numbers.now (k - 1) 0 in
    let some : 0 < k = omega (arith, c.loop-k-test.true) in
    let none : list_any (λ (y : ℕ). y == x) (drop k c.args.numbers.now) ≡ false =
    ap (λ (xs : List ℕ). list_any (λ (y : ℕ). y == x) xs) (sym c.split_at.ensures.back) ∙ sym c.is_among.ensures ∙ c.if-is_among.false in
    record {
      inside = omega (arith, c.loop-k.invariant.inside);
      differ = differ_on c.args.numbers.now k 0 some c.loop-k.invariant.inside c.loop-k.invariant.differ none;
      within = within_on c.args.numbers.now k 0 some c.loop-k.invariant.inside c.loop-k.least c.loop-k.greatest c.min-least.result c.max-greatest.result c.loop-k.invariant.within
          (omega (arith, c.min-least.ensures)) (omega (arith, c.min-least.ensures)) (omega (arith, c.max-greatest.ensures)) (omega (arith, c.max-greatest.ensures));
    }
