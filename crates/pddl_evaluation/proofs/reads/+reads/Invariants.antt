use Rattle.std.proofs.Common.{◌≡◌, ◌||◌, ◌∷◌, drop}
use Rattle.std.specs.List.{list_any}
use Rattle.pddl_state.specs.Atoms.{AtomValue, atom_eq}
use Rattle.pddl_compiled.specs.Views.{condition_view, conditions_view, frame_view}
use Rattle.pddl_compiled.specs.CompiledMeaning.{some_tested, some_tested_in}
use Rattle.pddl_evaluation.proofs.reads.+reads.Given as goal

abbrev pub invariant-add_all_reads-loop-condition : goal.invariant-add_all_reads-loop-condition
invariant-add_all_reads-loop-condition g l =
    let owns = g.S.AtomStore.owns in
    let content = g.S.AtomStore.content in
    record {
      own : owns l.store l.into;
      others_own : (t : _) → owns l.fn.store t → owns l.store t;
      others : (t : _) → owns l.fn.store t → content l.store t ≡ content l.fn.store t;
      rest : (x : AtomValue) → (some_tested_in (conditions_view l.conditions) (atom_eq x) (frame_view l.frame) || content l.fn.store l.fn.into x) ≡ (some_tested_in (conditions_view (drop l.condition-index l.conditions)) (atom_eq x) (frame_view l.frame) || content l.store l.into x);
    }

abbrev pub invariant-add_reads_of_each-loop-object : goal.invariant-add_reads_of_each-loop-object
invariant-add_reads_of_each-loop-object g l =
    let owns = g.S.AtomStore.owns in
    let content = g.S.AtomStore.content in
    record {
      own : owns l.store l.into;
      others_own : (t : _) → owns l.fn.store t → owns l.store t;
      others : (t : _) → owns l.fn.store t → content l.store t ≡ content l.fn.store t;
      rest : (x : AtomValue) → (list_any (λ o. some_tested (condition_view l.condition) (atom_eq x) (o ∷ frame_view l.frame)) l.range || content l.fn.store l.fn.into x) ≡ (list_any (λ o. some_tested (condition_view l.condition) (atom_eq x) (o ∷ frame_view l.frame)) (drop l.object-index l.range) || content l.store l.into x);
    }
