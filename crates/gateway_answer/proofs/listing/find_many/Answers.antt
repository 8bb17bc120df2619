use Rattle.std.proofs.Common.{ℕ, List, ap, sym, subst, ◌∙◌, map, arith}
use Rattle.gateway_answer.proofs.Names.{AreMarked, nearest}
use Rattle.gateway_answer.proofs.ListsLemmas.{held_from, held_is, none_marked}
use Rattle.gateway_answer.proofs.listing.find_many.Goals as goal

pub loop-place-init : goal.loop-place-init
loop-place-init g c = record {
  held = ap (λ (found : List ℕ). held_from (g.O.Observe.seen c.args.seen.now c.args.node) found (map (nearest c.args.top) c.args.numbers.now)) c.clear.ensures.items
      ∙ held_is (g.O.Observe.seen c.args.seen.now c.args.node) (map (nearest c.args.top) c.args.numbers.now);
  marked = subst (λ (found : List ℕ). AreMarked c.args.top c.clear-2.new.self found) (sym c.clear.ensures.items) (none_marked c.args.top c.clear-2.new.self c.clear-2.ensures);
  few = omega (arith, c.clear.ensures.count);
}
