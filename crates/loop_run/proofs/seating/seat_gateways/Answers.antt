use Rattle.std.proofs.Common.{arith, ap, refl, ◌∙◌, length}
use Rattle.loop_run.proofs.ListLemmas.{length_pushed}
use Rattle.loop_run.proofs.MakeLemmas.{keeps_self, keeps_then}
use Rattle.loop_run.proofs.SeatLemmas.{gateway_more, makes_all, makes_some}
use Rattle.loop_run.proofs.seating.seat_gateways.Goals as goal

pub loop-place-init : goal.loop-place-init
loop-place-init g c = record {
  has = c.requires.nodes;
  count = let is = c.requires.count in omega (arith, is);
  keeps = keeps_self _;
  room = refl;
}

pub loop-place-preserved : goal.loop-place-preserved
loop-place-preserved g c = record {
  has = gateway_more g.L.Link.Link c.args.setup _ _ _ _ _ c.loop-place.place _ c.loop-place.invariant.count
      c.loop-place.invariant.has c.in-Ok.ensures.made c.push_reserved.ensures.items;
  count =
      let long = ap (λ l. length l) c.push_reserved.ensures.items ∙ length_pushed _ _ in
      let was = c.loop-place.invariant.count in omega (arith, long, was);
  keeps = keeps_then _ _ _ c.loop-place.invariant.keeps c.in-Ok.ensures.made.on.keeps;
  room = c.push_reserved.ensures.capacity ∙ c.loop-place.invariant.room;
}

pub returns-in-Err : goal.returns-in-Err
returns-in-Err g c = makes_some g.L.Link.Link c.args.setup _ _ _ _ _ c.in-Err.stop
    c.loop-place.invariant.has c.in-Err.ensures.err

pub returns : goal.returns
returns g c = makes_all g.L.Link.Link c.args.setup _ _ _ _ c.loop-place.invariant.has
    (let was = c.loop-place.invariant.count in let over = c.loop-place-test.false in omega (arith, was, over))
    c.loop-place.invariant.keeps
