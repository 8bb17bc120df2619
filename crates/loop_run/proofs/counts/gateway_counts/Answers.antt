use Rattle.std.proofs.Common.{ap, sym, map, take, ◌∙◌, ◌++◌, ◌∷◌, [], List}
use Rattle.loop_run.proofs.Names.{GatewayCounts, LoopBook, gateway_counts_of, shown, value_of}
use Rattle.loop_run.proofs.AlikeLemmas.{alike_set, counted_next}
use Rattle.loop_run.proofs.counts.gateway_counts.Goals as goal

pub returns-in_err-one-clause-same : goal.returns-in_err-one-clause-same
returns-in_err-one-clause-same c = alike_set c.args.books.now c.loop-place.books c.loop-place.place
    c.book_counts.new.book c.index-books-place.result c.loop-place.invariant.same c.index-books-place.is
    (c.book_counts.ensures.same ∙ ap (λ (b : LoopBook). shown b) (sym c.index-books-place.is))

pub returns-in_err-push-clause-same : goal.returns-in_err-push-clause-same
returns-in_err-push-clause-same c = alike_set c.args.books.now c.loop-place.books c.loop-place.place
    c.book_counts.new.book c.index-books-place.result c.loop-place.invariant.same c.index-books-place.is
    (c.book_counts.ensures.same ∙ ap (λ (b : LoopBook). shown b) (sym c.index-books-place.is))

pub loop-place-preserved : goal.loop-place-preserved
loop-place-preserved c = record {
  counts = c.in_ok-push.ensures.items
      ∙ ap (λ (l : List GatewayCounts). l ++ c.in_ok-one.one ∷ []) c.loop-place.invariant.counts
      ∙ ap (λ (s : GatewayCounts).
      map (λ (b : LoopBook). gateway_counts_of (value_of b)) (take c.loop-place.place c.args.books.now) ++ s ∷ [])
      (c.in_ok-one.ensures.counts ∙ ap (λ (b : LoopBook). gateway_counts_of (value_of b)) (sym c.index-books-place.is))
      ∙ counted_next c.args.books.now c.loop-place.books c.loop-place.place c.index-books-place.result
      c.loop-place.invariant.same c.loop-place-test.true c.index-books-place.is;
  same = alike_set c.args.books.now c.loop-place.books c.loop-place.place c.book_counts.new.book
      c.index-books-place.result c.loop-place.invariant.same c.index-books-place.is
      (c.book_counts.ensures.same ∙ ap (λ (b : LoopBook). shown b) (sym c.index-books-place.is));
}
