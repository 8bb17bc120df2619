use Rattle.std.proofs.Common.{arith, rules}
use Rattle.gateway_index.proofs.PairLemmas.{kept_more, kept_none}
use Rattle.gateway_index.proofs.windows.keep_from.Goals as goal

pub loop-place-init : goal.loop-place-init
loop-place-init c = kept_none c.args.firm c.args.from c.args.pairs.now.items

pub index_mut-requires : goal.index_mut-requires
index_mut-requires c = omega (arith, c.requires.inside, c.loop-place.invariant.count, c.loop-place-test.true)

pub loop-place-preserved : goal.loop-place-preserved
loop-place-preserved c =
    kept_more c.keep.new.self (omega arith) (omega (arith, c.requires.inside, c.loop-place.invariant.count, c.loop-place-test.true)) c.loop-place.invariant
    c.index_mut.ensures.value c.keep.ensures

pub returns : goal.returns
returns c = search rules
