use Rattle.std.proofs.Common.{ℕ, ltb, rules}
use Rattle.std.proofs.lemmas.List.Sorted.{IsPartitionedBy-ltb, IsPartitionPoint-from_clause}
use Rattle.pddl_forest.specs.Forests.{number_at}
use Rattle.pddl_types.proofs.ListSums.{rising}
use Rattle.pddl_types.proofs.object_order.ObjectOrder.below.Goals as goal

pub returns-clause-point : goal.returns-clause-point
returns-clause-point g c = rw (← c.as_slice-numbers.ensures.value, ← c.as_slice-objects.ensures.value) (
    let n : ℕ → ℕ = number_at c.as_slice-numbers.result.now in
    let xs = c.as_slice-objects.result.now in
    let up = rising c.as_slice-numbers.result.now xs (rw (← c.as_slice-numbers.ensures.value, ← c.as_slice-objects.ensures.value) at c.args.self.now.ordered) in
    IsPartitionPoint-from_clause (λ o. ltb (n o) c.args.number) xs _ c.partition_point.ensures.partitioned (IsPartitionedBy-ltb n xs c.args.number up) (λ a r q k. search rules))
