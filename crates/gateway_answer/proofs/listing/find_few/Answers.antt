use Rattle.std.proofs.Common.{ℕ, List, ap, ◌∙◌, map, arith}
use Rattle.gw_base.specs.Nearest.{nearest}
use Rattle.gateway_answer.proofs.ListsLemmas.{held_from, held_is}
use Rattle.gateway_answer.proofs.listing.find_few.Goals as goal

pub loop-place-init : goal.loop-place-init
loop-place-init g c = record {
  held = ap (λ (found : List ℕ). held_from (g.O.Observe.seen c.args.seen.now c.args.node) found (map (nearest c.args.top) c.args.numbers.now)) c.clear.ensures.items
      ∙ held_is (g.O.Observe.seen c.args.seen.now c.args.node) (map (nearest c.args.top) c.args.numbers.now);
  few = omega (arith, c.clear.ensures.count);
}
