use Rattle.std.proofs.Common.{◌≡◌, ◌∷◌, drop}
use Rattle.std.specs.List.{list_any}
use Rattle.pddl_compiled.specs.Views.{change_view, changes_view, frame_view}
use Rattle.pddl_tables.specs.Lookups.{price_in}
use Rattle.pddl_plan_tables.specs.ChangeCosts.{is_unpriced, some_cost, some_cost_in}
use Rattle.pddl_plan_tables.proofs.costs.+costs.Given as goal

-- the whole is what is left
abbrev pub invariant-some_costless-loop-object : goal.invariant-some_costless-loop-object
invariant-some_costless-loop-object g l =
    let test = is_unpriced (price_in l.prices) in
    some_cost (change_view l.change) test (frame_view l.frame) ≡ list_any (λ o. some_cost (change_view l.inner.value) test (o ∷ frame_view l.frame)) (drop l.object-index l.object-items)

abbrev pub invariant-some_costless_in-loop-change : goal.invariant-some_costless_in-loop-change
invariant-some_costless_in-loop-change g l =
    let test = is_unpriced (price_in l.prices) in
    some_cost_in (changes_view (drop l.change-index l.changes)) test (frame_view l.frame) ≡ some_cost_in (changes_view l.changes) test (frame_view l.frame)
