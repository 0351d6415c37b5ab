use Rattle.std.proofs.Common.{◌≡◌, ◌||◌, ◌∷◌, drop}
use Rattle.std.specs.List.{list_any}
use Rattle.pddl_state.specs.Atoms.{AtomValue, atom_eq}
use Rattle.pddl_compiled.specs.Views.{change_view, changes_view, frame_view}
use Rattle.pddl_evaluation.specs.Fires.{added, all_added, deleted, all_deleted}
use Rattle.pddl_evaluation.proofs.fires.+fires.Given as goal

abbrev pub invariant-add_all_fired-loop-change : goal.invariant-add_all_fired-loop-change
invariant-add_all_fired-loop-change g l =
    let owns = g.S.AtomStore.owns in
    let content = g.S.AtomStore.content in
    let s = content l.fn.store l.state in
    record {
      adds_own : owns l.store l.adds;
      dels_own : owns l.store l.dels;
      others_own : (t : _) → owns l.fn.store t → owns l.store t;
      others : (t : _) → owns l.fn.store t → content l.store t ≡ content l.fn.store t;
      added_rest : (x : AtomValue) → (all_added s (changes_view l.changes) (atom_eq x) (frame_view l.frame) || content l.fn.store l.fn.adds x) ≡ (all_added s (changes_view (drop l.change-index l.changes)) (atom_eq x) (frame_view l.frame) || content l.store l.adds x);
      deleted_rest : (x : AtomValue) → (all_deleted s (changes_view l.changes) (atom_eq x) (frame_view l.frame) || content l.fn.store l.fn.dels x) ≡ (all_deleted s (changes_view (drop l.change-index l.changes)) (atom_eq x) (frame_view l.frame) || content l.store l.dels x);
    }

abbrev pub invariant-add_fired_of_each-loop-object : goal.invariant-add_fired_of_each-loop-object
invariant-add_fired_of_each-loop-object g l =
    let owns = g.S.AtomStore.owns in
    let content = g.S.AtomStore.content in
    let s = content l.fn.store l.state in
    record {
      adds_own : owns l.store l.adds;
      dels_own : owns l.store l.dels;
      others_own : (t : _) → owns l.fn.store t → owns l.store t;
      others : (t : _) → owns l.fn.store t → content l.store t ≡ content l.fn.store t;
      added_rest : (x : AtomValue) → (list_any (λ o. added s (change_view l.change) (atom_eq x) (o ∷ frame_view l.frame)) l.range || content l.fn.store l.fn.adds x) ≡ (list_any (λ o. added s (change_view l.change) (atom_eq x) (o ∷ frame_view l.frame)) (drop l.object-index l.range) || content l.store l.adds x);
      deleted_rest : (x : AtomValue) → (list_any (λ o. deleted s (change_view l.change) (atom_eq x) (o ∷ frame_view l.frame)) l.range || content l.fn.store l.fn.dels x) ≡ (list_any (λ o. deleted s (change_view l.change) (atom_eq x) (o ∷ frame_view l.frame)) (drop l.object-index l.range) || content l.store l.dels x);
    }
