use Rattle.std.proofs.Common.{nat_lt, arith, rules, refl, sym}
use Rattle.cgf_journal.proofs.Names.{IsPartitionedBy-ltb, IsPartitionPoint-from_clause, KeptKey, rank, rank_of}
use Rattle.cgf_journal.proofs.Orders.{absent_at, absent_end, before_by, found_at, not_before_by, ordered}
use Rattle.cgf_journal.proofs.sorted.search.Goals as goal

pub returns-then-at-keys-clause-absent : goal.returns-then-at-keys-clause-absent
returns-then-at-keys-clause-absent c =
    let q = rank_of c.args.node.0 c.args.number in
    let point = IsPartitionPoint-from_clause (λ (k : KeptKey). nat_lt (rank k) q) _ _ c.partition_point-at.ensures.partitioned
    (IsPartitionedBy-ltb (λ (k : KeptKey). rank k) c.args.keys.now q (ordered c.args.keys.now c.requires)) (λ a r f k. search rules) in
    absent_end c.args.keys.now c.partition_point-at.result c.args.node.0 c.args.number (omega (arith, c.if-at-keys.true)) (before_by c.args.keys.now _ _ point)

pub returns-then-is_at-clause-found : goal.returns-then-is_at-clause-found
returns-then-is_at-clause-found c =
    let q = rank_of c.args.node.0 c.args.number in
    let point = IsPartitionPoint-from_clause (λ (k : KeptKey). nat_lt (rank k) q) _ _ c.partition_point-at.ensures.partitioned
    (IsPartitionedBy-ltb (λ (k : KeptKey). rank k) c.args.keys.now q (ordered c.args.keys.now c.requires)) (λ a r f k. search rules) in
    found_at c.args.keys.now c.partition_point-at.result c.args.node.0 c.args.number _ c.requires (omega (arith, c.if-at-keys.false, c.partition_point-at.ensures.bound))
    (before_by c.args.keys.now _ _ point) (sym c.if-is_at.ensures.named)

pub returns-clause-absent : goal.returns-clause-absent
returns-clause-absent c =
    let q = rank_of c.args.node.0 c.args.number in
    let point = IsPartitionPoint-from_clause (λ (k : KeptKey). nat_lt (rank k) q) _ _ c.partition_point-at.ensures.partitioned
    (IsPartitionedBy-ltb (λ (k : KeptKey). rank k) c.args.keys.now q (ordered c.args.keys.now c.requires)) (λ a r f k. search rules) in
    absent_at c.args.keys.now c.partition_point-at.result c.args.node.0 c.args.number _ c.requires (omega (arith, c.if-at-keys.false, c.partition_point-at.ensures.bound))
    (before_by c.args.keys.now _ _ point) (not_before_by c.args.keys.now _ _ point) (c.if-is_at.ensures.apart refl)
