use Rattle.std.proofs.Common.{◌≡◌, ◌∷◌, [], ◌++◌, length, refl, sym, ap, subst, ◌∙◌, append_assoc, append-nil, arith}
use Rattle.loop_run.proofs.Names.{All, AllRan, CanLeave, into_iter_items, nil_from_length, option_or}
use Rattle.loop_run.proofs.CollectLemmas.{IsLeftSo, begun_so, first_can, grows_on, left_more, rest_can}
use Rattle.loop_run.proofs.LeftLemmas.{all_collected}
use Rattle.loop_run.proofs.collecting.collect.Goals as goal

pub loop-seat-init : goal.loop-seat-init
loop-seat-init g c =
    let items = c.into_iter-seat-iterator.ensures.into_iter_gives.0 in
    record {
      split = refl;
      count = c.into_iter-seat-iterator.ensures.into_iter_gives.1 ∙ c.args.seats.ok.0 ∙ ap (λ l. length l) (sym items);
      can = subst (λ l. All (CanLeave g.L.Link.Link (g.L.Links.state c.args.links.now)) l) (sym items) c.requires.seats;
      so = begun_so g.L.Link.Link c.args.setup _ _ c.none-looped.ensures.0 c.none-looped.ensures.1;
    }

pub leave-why-requires : goal.leave-why-requires
leave-why-requires g c = first_can g.L.Link.Link (g.L.Links.state c.loop-seat.links)
    (into_iter_items c.loop-seat.seat-iterator) (into_iter_items c.next.new.self) c.in-Some.seat
    c.in-Some.ensures.steps.0 c.loop-seat.invariant.can

pub loop-seat-preserved : goal.loop-seat-preserved
loop-seat-preserved g c = record {
  split = append_assoc c.loop-seat.yielded (c.in-Some.seat ∷ []) _
      ∙ ap (λ l. c.loop-seat.yielded ++ l) (sym c.in-Some.ensures.steps.0) ∙ c.loop-seat.invariant.split;
  count =
      let was = c.loop-seat.invariant.count in
      let gone = c.in-Some.ensures.steps.1 in
      let short : length (into_iter_items c.loop-seat.seat-iterator) ≡ length (c.in-Some.seat ∷ into_iter_items c.next.new.self) =
      ap (λ l. length l) c.in-Some.ensures.steps.0 in omega (arith, was, gone, short);
  can = rest_can g.L.Link.Link (g.L.Links.state c.loop-seat.links) (g.L.Links.state c.leave-why.new.links)
      (into_iter_items c.loop-seat.seat-iterator) (into_iter_items c.next.new.self) c.in-Some.seat
      c.in-Some.ensures.steps.0
      (grows_on g.L.Link.Link (g.L.Links.state c.loop-seat.links) (g.L.Links.state c.leave-why.new.links)
      c.loop-seat.looped c.leave-why.new.looped c.leave-why.result c.in-Some.seat c.leave-why.ensures)
      c.loop-seat.invariant.can;
  so = subst (λ o. IsLeftSo g.L.Link.Link c.args.setup (g.L.Links.state c.args.links.now)
      (g.L.Links.state c.leave-why.new.links) (c.loop-seat.yielded ++ c.in-Some.seat ∷ []) c.leave-why.new.looped o)
      {x = option_or c.loop-seat.stop c.leave-why.result} (sym c.or-stop.ensures)
      (left_more g.L.Link.Link c.args.setup c.requires.within (g.L.Links.state c.args.links.now)
      (λ place turns. c.nodes_of_a_loop_keep_all.ensures.kept c.args.setup place turns c.requires.within)
      (λ place turns. c.nodes_of_a_loop_keep_all.ensures.done c.args.setup place turns c.requires.within)
      c.what_is_in_turn_stays_so.ensures.front c.what_is_in_turn_stays_so.ensures.replies
      (g.L.Links.state c.loop-seat.links) (g.L.Links.state c.leave-why.new.links) c.loop-seat.looped
      c.leave-why.new.looped c.loop-seat.yielded c.in-Some.seat c.loop-seat.stop c.leave-why.result
      c.loop-seat.invariant.so
      (first_can g.L.Link.Link (g.L.Links.state c.loop-seat.links) (into_iter_items c.loop-seat.seat-iterator)
      (into_iter_items c.next.new.self) c.in-Some.seat c.in-Some.ensures.steps.0 c.loop-seat.invariant.can)
      c.leave-why.ensures);
}

pub returns-clause-collected : goal.returns-clause-collected
returns-clause-collected g c ran count few none =
    let at = c.loop-seat in
    let empty : into_iter_items at.seat-iterator ≡ [] =
    nil_from_length _ (sym at.invariant.count ∙ c.in-None.ensures.steps.0) in
    let all : at.yielded ≡ c.args.seats.items =
    sym (append-nil at.yielded) ∙ ap (λ l. at.yielded ++ l) (sym empty) ∙ at.invariant.split
    ∙ c.into_iter-seat-iterator.ensures.into_iter_gives.0 in
    all_collected c.args.setup _ _ (length at.yielded) _ (ap (λ l. length l) all ∙ count)
    (at.invariant.so.left (subst (λ l. AllRan g.L.Link.Link c.args.setup l) (sym all) ran) few none)

pub returns-clause-stopped : goal.returns-clause-stopped
returns-clause-stopped g c = record {
  later = c.loop-seat.invariant.so.later;
  link = c.loop-seat.invariant.so.link;
  no_clock = c.loop-seat.invariant.so.no_clock;
}
