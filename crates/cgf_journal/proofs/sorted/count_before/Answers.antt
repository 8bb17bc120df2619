use Rattle.std.proofs.Common.{◌∙◌, sym, nat_lt, rules}
use Rattle.cgf_journal.proofs.Names.{IsPartitionedBy-ltb, IsPartitionPoint-from_clause, KeptKey, rank}
use Rattle.cgf_journal.proofs.MergedLemmas.{stays_in_place}
use Rattle.cgf_journal.proofs.Orders.{before_by, ordered}
use Rattle.cgf_journal.proofs.sorted.count_before.Goals as goal

pub returns-clause-stay : goal.returns-clause-stay
returns-clause-stay c = λ from to.
    let q = rank c.kept_at-first.result in
    let point = IsPartitionPoint-from_clause (λ (k : KeptKey). nat_lt (rank k) q) _ _ c.partition_point.ensures.partitioned
    (IsPartitionedBy-ltb (λ (k : KeptKey). rank k) c.args.keys.now q (ordered c.args.keys.now c.requires)) (λ a r f k. search rules) in
    stays_in_place from to c.partition_point.result c.args.keys.now c.args.others.now c.kept_at-first.result (sym c.is_empty.ensures ∙ c.if-is_empty.false) c.kept_at-first.ensures c.partition_point.ensures.bound (before_by c.args.keys.now _ q point)
