use Rattle.std.proofs.Common.{arith}
use Rattle.cgf_journal.proofs.Names.{get_or_default, KeptKey, settled_key}
use Rattle.std.proofs.lemmas.List.Edits.{map_over_more}
use Rattle.cgf_journal.proofs.sorted.settle_keys.Goals as goal

pub loop-key-preserved : goal.loop-key-preserved
loop-key-preserved c = rw c.settled.ensures (map_over_more (λ (kept : KeptKey). settled_key c.args.firm c.args.round kept) c.args.keys.now c.loop-key.keys c.loop-key.key-index _ c.loop-key-test.true c.loop-key.invariant (get_or_default c.loop-key.keys c.loop-key.key-index _ _ (omega arith)))
