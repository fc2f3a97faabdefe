use Rattle.std.proofs.Common.{rules, nat_lt}
use Rattle.std.proofs.lemmas.List.Sorted.{IsPartitionPoint-from_clause}
use Rattle.fd_pattern.proofs.Order.{partitioned, start_is}
use Rattle.fd_pattern.proofs.pattern.start_of.Goals as goal

pub returns : goal.returns
returns c =
    let point = IsPartitionPoint-from_clause (λ q. nat_lt q.0 c.args.row) _ _ c.partition_point.ensures.partitioned
    (partitioned c.args.places.now c.args.row c.requires) (λ a r q k. search rules) in
    start_is c.args.places.now c.args.row c.partition_point.result c.partition_point.ensures.bound point
