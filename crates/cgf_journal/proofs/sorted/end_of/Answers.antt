use Rattle.std.proofs.Common.{◌+◌, nat_lt, rules}
use Rattle.cgf_journal.proofs.Names.{IsPartitionedBy-ltb, IsPartitionPoint-from_clause, KeptKey, rank, rank_of}
use Rattle.cgf_journal.proofs.Orders.{before_by, not_before_by, ordered}
use Rattle.cgf_journal.proofs.sorted.end_of.Goals as goal

pub returns : goal.returns
returns c =
    let q = rank_of (c.args.node.0 + 1) 0 in
    let point = IsPartitionPoint-from_clause (λ (k : KeptKey). nat_lt (rank k) q) _ _ c.partition_point.ensures.partitioned
    (IsPartitionedBy-ltb (λ (k : KeptKey). rank k) c.args.keys.now q (ordered c.args.keys.now c.requires)) (λ a r f k. search rules) in
    record { inside = c.partition_point.ensures.bound; before = before_by c.args.keys.now _ q point; later = not_before_by c.args.keys.now _ q point }
