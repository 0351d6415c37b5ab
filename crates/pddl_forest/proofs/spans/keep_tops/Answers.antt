use Rattle.std.proofs.Common.{rules}
use Rattle.std.proofs.lemmas.Fn.{dedup_same}
use Rattle.std.proofs.lemmas.List.Sorted.{IsNonDecreasingBy-from_sort_by_key}
use Rattle.pddl_forest.proofs.ApartSpans.{within, are_tops}
use Rattle.pddl_forest.proofs.spans.keep_tops.Goals as goal

pub returns : goal.returns
returns g c =
    let sorted = c.sort_unstable_by_key.new.self.items in
    rw (dedup_same _ within _ (λ x y b f' x' y' k. search rules) _ _ c.dedup_by.ensures.filtered)
    (are_tops c.args.spans.now.items sorted c.sort_unstable_by_key.ensures.permutation
    (IsNonDecreasingBy-from_sort_by_key (λ s. s.first) sorted c.sort_unstable_by_key.ensures.sorted (λ a r q k. search rules)) c.requires)
