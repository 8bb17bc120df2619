use Rattle.std.proofs.Common.{arith, refl}
use Rattle.gtpp_elements.proofs.FirstLemmas.{first_further, first_here, first_nowhere, none_of_kind, some_of_kind, whole_further}
use Rattle.gtpp_elements.proofs.elements.Elements.first.Goals as goal

pub returns-then-found-kind-clause-value : goal.returns-then-found-kind-clause-value
returns-then-found-kind-clause-value c =
    first_here _ _ _ _ c.args.kind c.args.self.now c.in-Ok.ensures.reading c.loop-found.invariant.whole c.loop-found.invariant.same c.if-found-kind.true

pub returns-then-found-kind-clause-none : goal.returns-then-found-kind-clause-none
returns-then-found-kind-clause-none c =
    let found = first_here _ _ _ _ c.args.kind c.args.self.now c.in-Ok.ensures.reading c.loop-found.invariant.whole c.loop-found.invariant.same c.if-found-kind.true in
    (λ never. cc, λ none. absurd (some_of_kind c.args.kind c.args.self.now _ found none))

pub loop-found-preserved : goal.loop-found-preserved
loop-found-preserved c = record {
  within = omega (arith, c.in-Ok.ensures.shorter);
  whole = whole_further _ _ _ _ c.in-Ok.ensures.reading c.loop-found.invariant.whole;
  same = first_further _ _ _ _ c.args.kind c.args.self.now c.in-Ok.ensures.reading c.loop-found.invariant.whole c.loop-found.invariant.same c.if-found-kind.false;
}

pub returns-clause-value : goal.returns-clause-value
returns-clause-value c =
    first_nowhere _ _ _ c.args.kind c.args.self.now c.in_default.ensures.reading c.loop-found.invariant.whole c.loop-found.invariant.same

pub returns-clause-none : goal.returns-clause-none
returns-clause-none c =
    let found = first_nowhere _ _ _ c.args.kind c.args.self.now c.in_default.ensures.reading c.loop-found.invariant.whole c.loop-found.invariant.same in
    (λ same. none_of_kind c.args.kind c.args.self.now found, λ none. refl)
