use Rattle.std.proofs.Common.{rules, sym, ap, ◌∙◌, ◌+◌, subst, arith, []}
use Rattle.turn_cell.proofs.Calls.{new_more, next_first, next_rest, splits_next}
use Rattle.turn_cell.proofs.Names.{AreNew, first_of, Resting, seat, without_first}
use Rattle.turn_cell.proofs.making.make.Goals as goal

pub split_seat-pass-requires : goal.split_seat-pass-requires
split_seat-pass-requires g c = (
  c.loop.invariant.table ∙ c.requires.own,
  search rules,
  splits_next _ _ _ _ _ c.loop.counter c.args.count _ c.loop-test.true (ap (λ m. m.0) c.loop.invariant.rests),
)

pub loop-preserved : goal.loop-preserved
loop-preserved g c =
    let i = c.loop.invariant in
    let start = g.V.Counted.facts c.args.words.now.key.value.value in
    let split = c.split_seat-pass.ensures in
    let own = c.of.ensures.own ∙ split.3 ∙ (i.table ∙ c.requires.own) in
    let know = c.of.ensures.knows ∙ ap (λ m. first_of m.0.passes) split.4 ∙ ap (λ m. first_of m.0.passes) i.rests ∙ next_first start c.loop.counter c.args.count c.loop-test.true in
    record {
      table = split.0 ∙ i.table;
      rests = split.2 ∙ ap (λ m. (without_first m.0, m.1)) i.rests ∙ ap (λ ks. (seat Resting ks, [])) (next_rest start c.loop.counter c.args.count c.loop-test.true);
      count = let was = i.count in omega (arith, c.push_reserved.ensures.len);
      room = c.push_reserved.ensures.capacity ∙ i.room;
      all = subst (AreNew c.args.words.now.table_id start (c.loop.counter + 1)) (sym c.push_reserved.ensures.items)
          (new_more _ start c.loop.counter _ _ i.all own know);
    }
