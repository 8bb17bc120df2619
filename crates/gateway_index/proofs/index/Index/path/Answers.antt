use Rattle.std.proofs.Common.{sym, ◌∙◌, arith, rules}
use Rattle.gateway_index.proofs.Names.{drop_all, path_in, side_of}
use Rattle.gateway_index.proofs.IndexLemmas.{counted, first, passed}
use Rattle.gateway_index.proofs.index.Index.path.Goals as goal

pub loop-place-preserved-in_default : goal.loop-place-preserved-in_default
unfolding side_of
loop-place-preserved-in_default c = search (rules, passed)

pub returns-then-left-eq0 : goal.returns-then-left-eq0
unfolding side_of
returns-then-left-eq0 c = search (rules, first)

pub loop-place-preserved : goal.loop-place-preserved
unfolding side_of
loop-place-preserved c =
    let s = side_of c.args.firm c.args.self.now in
    counted (path_in s) s.nodes.known c.loop-place.place c.node-node.result c.node-node.ensures c.in-Some.path c.loop-place.left
    (sym c.path_of.ensures ∙ c.in-Some.is) (omega (arith, c.if-left-eq0.false)) ∙ c.loop-place.invariant

pub returns : goal.returns
unfolding side_of
returns c = search (rules, drop_all)
