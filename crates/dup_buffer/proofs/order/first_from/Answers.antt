use Rattle.std.proofs.Common.{◌≡◌, nat_lt, rules, true, false}
use Rattle.std.specs.List.Sorted.{IsPartitionPoint}
use Rattle.std.proofs.lemmas.List.Sorted.{IsPartitionPoint-from_clause, IsPartitionedBy-ltb}
use Rattle.dup_buffer.specs.Stored.{rank}
use Rattle.dup_buffer.specs.declared.copy.HeldCopy.{HeldCopy}
use Rattle.dup_buffer.proofs.OrderLemmas.{from_point, ordered}
use Rattle.dup_buffer.proofs.order.first_from.Goals as goal

pub returns : goal.returns
returns c =
    let copies = c.args.copies.now in
    let q = c.args.rank in
    let point : IsPartitionPoint (λ (k : HeldCopy). nat_lt (rank k) q ≡ true) (λ (k : HeldCopy). nat_lt (rank k) q ≡ false) copies c.partition_point.result =
    IsPartitionPoint-from_clause (λ (k : HeldCopy). nat_lt (rank k) q) _ _ c.partition_point.ensures.partitioned
    (IsPartitionedBy-ltb (λ (k : HeldCopy). rank k) copies q (ordered copies c.requires)) (λ a r f k. search rules) in
    from_point copies c.partition_point.result q c.partition_point.ensures.bound point
