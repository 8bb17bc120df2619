use Rattle.std.proofs.Common.{arith, ap, refl, List, ◌∙◌, length}
use Rattle.gw_base.specs.declared.address.Addr.{Addr}
use Rattle.loop_run.proofs.AddressLemmas.{gateways_count}
use Rattle.loop_run.proofs.ListLemmas.{length_pushed}
use Rattle.loop_run.proofs.MakeLemmas.{keeps_self, keeps_then}
use Rattle.loop_run.proofs.SeatLemmas.{makes_all, makes_some, node_more, seats_none}
use Rattle.loop_run.proofs.seating.seat_nodes.Goals as goal

pub make_node-requires-clause-some : goal.make_node-requires-clause-some
make_node-requires-clause-some g c =
    let same = ap (λ (l : List Addr). length l) c.requires.gateways ∙ gateways_count c.args.setup.gateways in
    let some = c.requires.within.some_gateways in omega (arith, same, some)

pub make_node-requires-clause-most : goal.make_node-requires-clause-most
make_node-requires-clause-most g c =
    let same = ap (λ (l : List Addr). length l) c.requires.gateways ∙ gateways_count c.args.setup.gateways in
    let most = c.requires.within.most_gateways in omega (arith, same, most)

pub loop-place-init : goal.loop-place-init
loop-place-init g c = record {
  has = seats_none g.L.Link.Link c.args.setup _ _ c.requires.none;
  count = ap (λ l. length l) c.requires.none;
  keeps = keeps_self _;
  room = refl;
}

pub loop-place-preserved : goal.loop-place-preserved
loop-place-preserved g c = record {
  has = node_more g.L.Link.Link c.args.setup _ _ _ _ _ c.args.gateways.now c.loop-place.place _ c.requires.gateways
      c.loop-place.invariant.count c.loop-place-test.true c.loop-place.invariant.has c.in-Ok.ensures.made
      c.push_reserved.ensures.items;
  count =
      let long = ap (λ l. length l) c.push_reserved.ensures.items ∙ length_pushed _ _ in
      let was = c.loop-place.invariant.count in omega (arith, long, was);
  keeps = keeps_then _ _ _ c.loop-place.invariant.keeps c.in-Ok.ensures.made.on.keeps;
  room = c.push_reserved.ensures.capacity ∙ c.loop-place.invariant.room;
}

pub returns-in-Err-clause-made : goal.returns-in-Err-clause-made
returns-in-Err-clause-made g c = makes_some g.L.Link.Link c.args.setup c.args.setup.nodes _ _ _ _ c.in-Err.stop
    c.loop-place.invariant.has c.in-Err.ensures.err

pub returns-clause-made : goal.returns-clause-made
returns-clause-made g c = makes_all g.L.Link.Link c.args.setup c.args.setup.nodes _ _ _ c.loop-place.invariant.has
    (let was = c.loop-place.invariant.count in let over = c.loop-place-test.false in omega (arith, was, over))
    c.loop-place.invariant.keeps
