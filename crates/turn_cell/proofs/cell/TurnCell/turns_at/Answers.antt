use Rattle.std.proofs.Common.{◌<◌, ◌+◌, length, take, arith, refl, rules, sym, subst, ap, ◌∙◌}
use Rattle.turn_cell.proofs.Names.{begun, Knowledge, known_at, made_by, take_all, TookMore}
use Rattle.turn_cell.proofs.Each.{own_on, took_behind, took_none}
use Rattle.turn_cell.proofs.cell.TurnCell.turns_at.Goals as goal

pub loop-item-init : goal.loop-item-init
loop-item-init g c =
    let start = g.V.Counted.facts (begun c.args.self.now) in
    let k = known_at c.args.place.now in
    record {
      same = refl;
      comes = c.requires.comes;
      session = c.requires.session;
      took = took_none g.V.Counted.told g.V.Counted.facts (made_by c.args.self.now) start (g.T.Turns.session c.args.turns.now) (g.T.Turns.does c.args.turns.now)
          c.args.answers.now.items k;
      each = search rules;
      capacity = refl;
    }

pub loop-item-preserved : goal.loop-item-preserved
loop-item-preserved g c =
    let items = c.args.items.now in
    let n = c.loop-item.item-index in
    let item = c.item-item.result in
    let within : n < length items = omega arith in
    let start = g.V.Counted.facts (begun c.args.self.now) in
    let first = c.loop-item.invariant in
    let before = known_at c.args.place.now in
    let now = known_at c.loop-item.place in
    let after = known_at c.turn_at-answer.new.place in
    let took = c.turn_at-answer.ensures.took in
    record {
      same = c.turn_at-answer.ensures.same ∙ first.same;
      comes = c.turn_at-answer.ensures.comes;
      session = own_on (g.T.Turns.session c.args.turns.now) now after (ap (λ (k : Knowledge). k.number) took.kept) first.session;
      took = subst (λ xs. TookMore g.V.Counted.told g.V.Counted.facts (made_by c.args.self.now) start (g.T.Turns.session c.args.turns.now) (g.T.Turns.does c.args.turns.now) (take (n + 1) items)
          c.args.answers.now.items xs before after)
          (sym c.push_reserved.ensures.items)
          (took_behind g.V.Counted.told g.V.Counted.facts (made_by c.args.self.now) start (g.T.Turns.session c.args.turns.now) (g.T.Turns.does c.args.turns.now) items n item
          c.args.answers.now.items c.loop-item.answers.items before now after c.turn_at-answer.result within c.item-item.is first.took (took, c.turn_at-answer.ensures.placed));
      each = omega (arith, c.push_reserved.ensures.len, first.each);
      capacity = c.push_reserved.ensures.capacity ∙ first.capacity;
    }

pub returns-clause-took : goal.returns-clause-took
returns-clause-took g c =
    let start = g.V.Counted.facts (begun c.args.self.now) in
    subst (λ is. TookMore g.V.Counted.told g.V.Counted.facts (made_by c.args.self.now) start (g.T.Turns.session c.args.turns.now) (g.T.Turns.does c.args.turns.now) is
    c.args.answers.now.items c.loop-item.answers.items (known_at c.args.place.now) (known_at c.loop-item.place))
    (take_all c.loop-item.item-index c.args.items.now (omega arith)) c.loop-item.invariant.took
