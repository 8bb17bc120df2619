use Rattle.std.proofs.Common.{◌≡◌, ℕ, ◌+◌, List, [], ◌∷◌, slice_index_or, sym, subst, arith}
use Rattle.file_writer.proofs.Names.{calls_below, Item, mark_told, stream_calls, stream_count, StreamAt}
use Rattle.file_writer.proofs.AllLemmas.{all_done, below_more, below_next, below_none, not_yet}
use Rattle.file_writer.proofs.FollowingLemmas.{no_result}
use Rattle.file_writer.proofs.MakingLemmas.{makes_none, makes_then, stopped_at, by_calls}
use Rattle.file_writer.proofs.all_streams.mark_all.Goals as goal

pub returns-in_err-mark_one-clause-takes : goal.returns-in_err-mark_one-clause-takes
returns-in_err-mark_one-clause-takes g c = λ settings closed sealed before same at.
    let item : Item = mark_told c.args.closes c.args.moment in
    let s : ℕ = c.loop-s.s in
    let prev = c.loop-s.invariant.takes settings closed sealed before same at in
    let next = c.in_err-mark_one.ensures.takes settings closed sealed before same prev.1 in
    let rest = below_more settings closed sealed before item (s + 1) stream_count (omega arith) in
    record {
      makes = by_calls (sym rest.1)
          (stopped_at g.F.Shelf (calls_below (s + 1) settings closed sealed before item) rest.0 _ _ _ _
          c.from_residual.ensures
          (by_calls (below_next settings closed sealed before item s)
          (makes_then g.F.Shelf (calls_below s settings closed sealed before item)
          (stream_calls settings closed sealed before (item ∷ []) s) _ _ _ _ prev.0 next.makes)));
      at = no_result c.from_residual.result c.in_err-mark_one.field-0.0 _ c.from_residual.ensures;
      shut = λ files plan most among shut.
          c.in_err-mark_one.ensures.shut files plan most (c.loop-s.invariant.shut files plan most shut);
    }

pub loop-s-init : goal.loop-s-init
loop-s-init g c = search (arith, by_calls, below_none, makes_none, not_yet)

pub loop-s-preserved : goal.loop-s-preserved
loop-s-preserved g c =
    let inv = c.loop-s.invariant in
    let e = c.in_ok-mark_one.ensures in
    record {
      safe = e.safe;
      few = e.below _ inv.few;
      sixteen = e.sixteen;
      below = λ most h. e.below most (inv.below most h);
      left = λ told start stale h. e.left told start stale (inv.left told start stale h);
      shut = λ files plan most h. e.shut files plan most (inv.shut files plan most h);
      takes = λ settings closed sealed before same at.
          let item : Item = mark_told c.args.closes c.args.moment in
          let prev = inv.takes settings closed sealed before same at in
          let next = e.takes settings closed sealed before same prev.1 in (
            by_calls (below_next settings closed sealed before item c.loop-s.s)
                (makes_then g.F.Shelf (calls_below c.loop-s.s settings closed sealed before item)
                (stream_calls settings closed sealed before (item ∷ []) c.loop-s.s) _ _ _ _ prev.0 next.makes),
            next.at,
          );
    }

pub returns-clause-takes : goal.returns-clause-takes
returns-clause-takes g c = λ settings closed sealed before same at.
    let item : Item = mark_told c.args.closes c.args.moment in
    let all = c.loop-s.invariant.takes settings closed sealed before same at in
    let sixteen : c.loop-s.s ≡ stream_count = omega arith in
    record {
      makes = by_calls (λ i. calls_below (sixteen i) settings closed sealed before item) all.0;
      at = λ s d h. subst (λ (items : List Item). StreamAt g.F.Shelf settings closed sealed items s
          (slice_index_or c.loop-s.streams s d) c.loop-s.shelf)
          (all_done c.loop-s.s before item s (omega (arith, h, sixteen))) (all.1 s d h);
      shut = λ files plan most among shut. c.loop-s.invariant.shut files plan most shut;
    }
