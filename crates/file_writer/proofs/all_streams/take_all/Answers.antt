use Rattle.std.proofs.Common.{◌≡◌, ℕ, ◌+◌, ◌-◌, ◌^◌, List, [], ◌∷◌, ◌++◌, length, take, drop, sym, ap, ◌∙◌, subst, arith, append_assoc}
use Rattle.file_writer.proofs.Names.{AllAt, AreAmong, calls_below, calls_of, GoesShut, Item, Settings, stream_count, take-append-drop, take_all}
use Rattle.file_writer.proofs.AllLemmas.{calls-append, calls-one, take_next}
use Rattle.file_writer.proofs.AmongLemmas.{among_fewer, among_next, in_front}
use Rattle.file_writer.proofs.FollowingLemmas.{no_result}
use Rattle.file_writer.proofs.MakingLemmas.{makes_then, stopped_at, by_calls}
use Rattle.file_writer.proofs.all_streams.take_all.Goals as goal

one_more : (settings : Settings) (closed sealed : ℕ → ℕ) (before items : List Item) (i : ℕ) (x : Item)
    → take (i + 1) items ≡ take i items ++ x ∷ []
    → calls_of settings closed sealed before (take i items)
    ++ calls_below stream_count settings closed sealed (before ++ take i items) x
    ≡ calls_of settings closed sealed before (take (i + 1) items)
one_more settings closed sealed before items i x more = rw more (calls-one settings closed sealed before (take i items) x)

pub take_item-requires-clause-few : goal.take_item-requires-clause-few
take_item-requires-clause-few g c = λ s d h.
    let below = c.loop-item.invariant.below (2 ^ 32 - 2 - length c.args.items.now) c.requires.few s d h in omega
    (arith, c.requires.room)

pub returns-in_err-take_item-clause-takes : goal.returns-in_err-take_item-clause-takes
returns-in_err-take_item-clause-takes g c = λ settings closed sealed before same rules at.
    let items : List Item = c.args.items.now in
    let law = c.division_goes_on.ensures in
    let i : ℕ = c.loop-item.item-index in
    let x : Item = c.item-item.result in
    let prev = c.loop-item.invariant.takes settings closed sealed before same rules at in
    let next = c.in_err-take_item.ensures.takes settings closed sealed (before ++ take i items) same rules prev.1 in
    let more : take (i + 1) items ≡ take i items ++ x ∷ [] = take_next items i x (omega arith) c.item-item.is in
    let whole = sym (calls-append settings closed sealed before (take (i + 1) items) (drop (i + 1) items))
    ∙ ap (λ (xs : List Item). calls_of settings closed sealed before xs) (take-append-drop (i + 1) items) in
    record {
      makes = by_calls whole
          (stopped_at g.F.Shelf (calls_of settings closed sealed before (take (i + 1) items))
          (calls_of settings closed sealed (before ++ take (i + 1) items) (drop (i + 1) items)) _ _ _ _
          c.from_residual.ensures
          (by_calls (one_more settings closed sealed before items i x more)
          (makes_then g.F.Shelf (calls_of settings closed sealed before (take i items))
          (calls_below stream_count settings closed sealed (before ++ take i items) x) _ _ _ _ prev.0 next.makes)));
      at = no_result c.from_residual.result c.in_err-take_item.field-0.0 _ c.from_residual.ensures;
      shut = λ files plan most among shut.
          let later = among_next law settings closed before items i x most more
          (among_fewer law settings closed (before ++ take (i + 1) items) (drop (i + 1) items) most
          (subst (λ (xs : List Item). AreAmong settings closed xs most) (in_front before items (i + 1)) among)) in
          next.shut files plan most later
          (prev.2 files plan most (among_fewer law settings closed (before ++ take i items) (x ∷ []) most later) shut);
    }

pub loop-item-preserved : goal.loop-item-preserved
loop-item-preserved g c =
    let inv = c.loop-item.invariant in
    let e = c.in_ok-take_item.ensures in
    let law = c.division_goes_on.ensures in
    let items : List Item = c.args.items.now in
    let i : ℕ = c.loop-item.item-index in
    let x : Item = c.item-item.result in
    let more : take (i + 1) items ≡ take i items ++ x ∷ [] = take_next items i x (omega arith) c.item-item.is in
    record {
      safe = e.safe;
      sixteen = e.sixteen;
      left = λ told start stale h. e.left told start stale (inv.left told start stale h);
      below = λ most h s d g. let b = e.below (most + i) (inv.below most h) s d g in omega arith;
      takes = λ settings closed sealed before same rules at.
          let prev = inv.takes settings closed sealed before same rules at in
          let next = e.takes settings closed sealed (before ++ take i items) same rules prev.1 in (
            by_calls (one_more settings closed sealed before items i x more)
                (makes_then g.F.Shelf (calls_of settings closed sealed before (take i items))
                (calls_below stream_count settings closed sealed (before ++ take i items) x) _ _ _ _ prev.0
                next.makes),
            search (arith, append_assoc),
            λ files plan most among shut.
                let later = among_next law settings closed before items i x most more among in
                next.shut files plan most later
                (prev.2 files plan most (among_fewer law settings closed (before ++ take i items) (x ∷ []) most later)
                shut),
          );
    }

pub returns-clause-takes : goal.returns-clause-takes
returns-clause-takes g c = λ settings closed sealed before same rules at.
    let items : List Item = c.args.items.now in
    let all = c.loop-item.invariant.takes settings closed sealed before same rules at in
    let whole : take c.loop-item.item-index items ≡ items = take_all c.loop-item.item-index items (omega arith) in
    record {
      makes = by_calls (ap (λ (xs : List Item). calls_of settings closed sealed before xs) whole) all.0;
      at = subst (λ (xs : List Item). AllAt g.F.Shelf settings closed sealed (before ++ xs) c.loop-item.streams
          c.loop-item.shelf) whole all.1;
      shut = subst (λ (xs : List Item). GoesShut g.F.Shelf settings closed (λ s. before ++ xs) c.args.shelf.now
          c.loop-item.shelf) whole all.2;
    }

pub returns-clause-below : goal.returns-clause-below
returns-clause-below g c = λ most h s d k. let b = c.loop-item.invariant.below most h s d k in omega arith
