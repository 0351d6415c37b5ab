use Rattle.std.proofs.Common.{refl, IsPermutation, length, subst, arith, rules}
use Rattle.std.proofs.lemmas.Iterator.{items_from_collect, YieldsList-from_range}
use Rattle.std.proofs.lemmas.List.Sorted.{IsNonDecreasingBy-from_sort_by_key}
use Rattle.pddl_forest.specs.Forests.{number_at}
use Rattle.pddl_types.proofs.object_order.ObjectOrder.of.Goals as goal

pub invariant_of-result : goal.invariant_of-result
invariant_of-result g c =
    let sorted = c.sort_unstable_by_key.new.self.items in
    let many = length c.args.numbers.items in
    let all = rw c.in_ok-objects.was at (items_from_collect c.collect.result c.collect.ensures.ran (YieldsList-from_range 0 c.len.result many refl (omega (arith, c.len.ensures)))) in
    record {
      ordered = ∣ record {
        all = subst (λ os. IsPermutation os sorted) all c.sort_unstable_by_key.ensures.permutation;
        rising = IsNonDecreasingBy-from_sort_by_key (number_at c.args.numbers.items) sorted c.sort_unstable_by_key.ensures.sorted (λ a r q k. search rules);
      } ∣₁;
    }
