use Rattle.std.proofs.Common.{leb, rules}
use Rattle.std.proofs.lemmas.List.Sorted.{IsPartitionPoint-from_clause, IsPartitionedBy-leb}
use Rattle.pddl_text.proofs.LinesBegun.{point_is_run}
use Rattle.pddl_text.proofs.places.begun.Goals as goal

pub returns : goal.returns
returns c =
    let parted = IsPartitionedBy-leb (λ s. s) _ c.args.place c.requires in
    let point = IsPartitionPoint-from_clause (λ s. leb s c.args.place) _ _ c.partition_point.ensures.partitioned parted (λ a r q k. search rules) in
    point_is_run (λ s. leb s c.args.place) c.args.starts.now _ c.partition_point.ensures.bound point
