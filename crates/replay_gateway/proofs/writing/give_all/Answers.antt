use Rattle.std.proofs.Common.{◌≡◌, ◌∙◌, refl, ap, subst, List, length, length-drop, length-take, drop, take, take_all, arith, rules}
use Rattle.replay_gateway.proofs.Names.{HasAdvanced, Item, items_of, part_of, shelf_tells}
use Rattle.replay_gateway.proofs.writing.give_all.Goals as goal

pub loop-count-init : goal.loop-count-init
loop-count-init c = record {
  ready = c.requires.ready;
  taken = c.requires.none;
  few = omega arith;
  short = omega arith;
  settings = refl;
  goes = λ setup place g m runs stands at. (
    stands,
    c.parts_go_as_one.ensures.none (λ s. 0) c.args.writer.now at,
    omega arith,
    λ less. absurd (omega arith),
  );
}

pub loop-count-preserved : goal.loop-count-preserved
loop-count-preserved c =
    let taken = c.loop-count.taken in
    let v = ap length c.deref.ensures.value in
    let n : c.from-taken.result ≡ length c.deref.result.now =
    omega (arith, c.from-taken.ensures, c.len-count.ensures, c.in_ok-items.items.ok.0) in
    record {
      ready = search rules;
      taken = omega (arith, c.in-Ok.ensures.count.2, c.loop-count.invariant.taken);
      few = omega (arith, c.in_ok-items.ensures.few);
      short = omega (arith, c.from-taken.ensures, c.in_ok-items.ensures.short);
      settings = c.in-Ok.ensures.settings ∙ c.loop-count.invariant.settings;
      goes = λ setup place g m runs stands at.
          let all = items_of g.book.firm in
          let i = c.loop-count.invariant.goes setup place g m runs stands at in
          let got = c.in_ok-items.ensures.items setup place g m runs i.0 in
          let is : c.deref.result.now ≡ part_of taken 64 all = c.deref.ensures.value ∙ got.0.is in
          let count : c.from-taken.result ≡ length (part_of taken 64 all) = cc in
          let long = length-take 64 (drop taken all) in
          let left = length-drop taken all in (
            got.1,
            rw count
                (c.parts_go_as_one.ensures.more (λ s. 0) all taken 64 c.in-Ok.field-0 c.args.writer.now
                c.loop-count.writer c.advance.new.self c.loop-count.invariant.settings i.1
                (rw is at (c.in-Ok.ensures.moves (λ s. 0) (take taken all) (i.1 0).at))),
            omega arith,
            λ less. (omega (arith, c.from-taken.ensures), got.0.few),
          );
    }

pub returns-in-Err-clause-given : goal.returns-in-Err-clause-given
returns-in-Err-clause-given c = λ setup place g m runs stands at.
    let taken = c.loop-count.taken in
    let all = items_of g.book.firm in
    let i = c.loop-count.invariant.goes setup place g m runs stands at in
    let got = c.in_ok-items.ensures.items setup place g m runs i.0 in (
      record {
        few = got.0.few;
        goes = c.parts_go_as_one.ensures.broken (λ s. 0) all taken 64 c.args.writer.now c.loop-count.writer
            c.advance.new.self c.in-Err.fault c.loop-count.invariant.settings i.1
            (rw (c.deref.ensures.value ∙ got.0.is) at (c.in-Err.ensures.moves (λ s. 0) (take taken all) (i.1 0).at));
        count = tt;
      },
      got.1,
    )

pub returns-clause-given : goal.returns-clause-given
returns-clause-given c = λ setup place g m runs stands at.
    let i = c.loop-count.invariant.goes setup place g m runs stands at in
    let last = i.3 (omega (arith, c.loop-count.invariant.short, c.loop-count-test.false)) in (
      record {
        few = last.1;
        goes = subst (λ (xs : List Item). HasAdvanced shelf_tells (λ s. 0) xs c.args.writer.now c.loop-count.writer)
            (take_all c.loop-count.taken (items_of g.book.firm) (omega arith)) i.1 c.loop-count.taken;
        count = last.0;
      },
      i.0,
    )
