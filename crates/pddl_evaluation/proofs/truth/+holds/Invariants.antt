use Rattle.std.proofs.Common.{◌≡◌, ℕ, Bool, ◌∷◌, drop}
use Rattle.std.specs.List.{list_any, list_all}
use Rattle.pddl_compiled.specs.Views.{condition_view, conditions_view, frame_view}
use Rattle.pddl_compiled.specs.CompiledMeaning.{is_true, are_true, is_some_true}
use Rattle.pddl_evaluation.proofs.truth.+holds.Given as goal

-- the whole is what is left
abbrev pub invariant-are_true-loop-condition : goal.invariant-are_true-loop-condition
invariant-are_true-loop-condition g l =
    let s = g.S.AtomStore.content l.store l.set in
    are_true s (conditions_view (drop l.condition-index l.conditions)) (frame_view l.frame) ≡ are_true s (conditions_view l.conditions) (frame_view l.frame)

abbrev pub invariant-is_some_true-loop-condition : goal.invariant-is_some_true-loop-condition
invariant-is_some_true-loop-condition g l =
    let s = g.S.AtomStore.content l.store l.set in
    is_some_true s (conditions_view (drop l.condition-index l.conditions)) (frame_view l.frame) ≡ is_some_true s (conditions_view l.conditions) (frame_view l.frame)

abbrev pub invariant-is_true_of_some-loop-object : goal.invariant-is_true_of_some-loop-object
invariant-is_true_of_some-loop-object g l =
    let test : ℕ → Bool = λ o. is_true (g.S.AtomStore.content l.store l.set) (condition_view l.condition) (o ∷ frame_view l.frame) in
    list_any test (drop l.object-index l.range) ≡ list_any test l.range

abbrev pub invariant-is_true_of_all-loop-object : goal.invariant-is_true_of_all-loop-object
invariant-is_true_of_all-loop-object g l =
    let test : ℕ → Bool = λ o. is_true (g.S.AtomStore.content l.store l.set) (condition_view l.condition) (o ∷ frame_view l.frame) in
    list_all test (drop l.object-index l.range) ≡ list_all test l.range
