use Rattle.cgf_journal.proofs.Names.{KeptKey, settled_key}
use Rattle.cgf_journal.proofs.Orders.{written}
use Rattle.cgf_journal.proofs.sorted.settle_all.Goals as goal

pub returns-clause-settled : goal.returns-clause-settled
returns-clause-settled c =
    written (λ (kept : KeptKey). settled_key c.args.firm c.args.round kept) c.args.keys.now.len c.deref_mut.result.now c.args.keys.now.items c.settle_keys.new.keys _
    c.settle_keys.ensures c.deref_mut.ensures.len c.deref_mut.ensures.value
