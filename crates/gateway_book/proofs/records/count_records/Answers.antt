use Rattle.std.proofs.Common.{◌≡◌, ◌<◌, ◌^◌, ◌∙◌, ap, arith, List, count_by, drop, length, take}
use Rattle.gateway_book.proofs.Names.{BookValue, is_part, Item, items_between, items_of, value_of}
use Rattle.gateway_book.proofs.PieceLemmas.{counted_last, counted_more, goes_on_within, unchanged_then}
use Rattle.gateway_book.proofs.records.count_records.Goals as goal

pub returns-then-len-clause-records : goal.returns-then-len-clause-records
returns-then-len-clause-records g c told =
    let xs : List Item = items_of (value_of c.args.book.now).firm in
    let is : c.in_ok-items.items.items ≡ take 4096 (drop c.pieces.from xs) =
    c.in_ok-items.ensures.items told
    ∙ ap (λ (v : BookValue). items_between c.pieces.from 4096 v.firm) (c.pieces.invariant.same.value told) in
    let few : length xs < 2 ^ 32 =
    omega (arith, c.a_book_is_within_the_limits.ensures.items told c.args.book.now, c.a_book_is_within_the_limits.ensures.short c.args.book.now) in
    counted_last xs c.in_ok-items.items.items c.pieces.records c.record_count.result c.saturating_add-records.result c.pieces.from c.saturating_add-records.ensures
    (c.record_count.ensures.parts ∙ ap (λ (l : List Item). count_by is_part l) c.deref.ensures.value) is few (c.pieces.invariant.counted told)
    (omega (arith, c.if-len.true, c.len.ensures, c.in_ok-items.items.ok.0))

pub pieces-preserved : goal.pieces-preserved
pieces-preserved g c = record {
  same = unchanged_then c.args.book.now c.pieces.book c.items.new.self c.pieces.invariant.same
      c.items.ensures.unchanged;
  still = c.in_ok-items.ensures.cause.still (λ is. cc is) ∙ c.pieces.invariant.still;
  counted = λ told.
      let xs : List Item = items_of (value_of c.args.book.now).firm in
      let is : c.in_ok-items.items.items ≡ take 4096 (drop c.pieces.from xs) =
      c.in_ok-items.ensures.items told
      ∙ ap (λ (v : BookValue). items_between c.pieces.from 4096 v.firm) (c.pieces.invariant.same.value told) in
      let few : length xs < 2 ^ 32 =
      omega (arith, c.a_book_is_within_the_limits.ensures.items told c.args.book.now, c.a_book_is_within_the_limits.ensures.short c.args.book.now) in
      counted_more xs c.in_ok-items.items.items c.pieces.records c.record_count.result c.saturating_add-records.result c.pieces.from c.saturating_add-records.ensures
      (c.record_count.ensures.parts ∙ ap (λ (l : List Item). count_by is_part l) c.deref.ensures.value) is few (c.pieces.invariant.counted told);
  within = λ told.
      let xs : List Item = items_of (value_of c.args.book.now).firm in
      let is : c.in_ok-items.items.items ≡ take 4096 (drop c.pieces.from xs) =
      c.in_ok-items.ensures.items told
      ∙ ap (λ (v : BookValue). items_between c.pieces.from 4096 v.firm) (c.pieces.invariant.same.value told) in
      goes_on_within xs c.in_ok-items.items.items c.pieces.from 4096 is (omega (arith, c.if-len.false, c.len.ensures, c.in_ok-items.items.ok.0)) (c.pieces.invariant.within told);
  small = omega (arith, c.pieces-test.true);
}
