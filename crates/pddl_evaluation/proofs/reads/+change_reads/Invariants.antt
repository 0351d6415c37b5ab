use Rattle.std.proofs.Common.{◌≡◌, ◌||◌, ◌∷◌, drop}
use Rattle.std.specs.List.{list_any}
use Rattle.pddl_state.specs.Atoms.{AtomValue, atom_eq}
use Rattle.pddl_compiled.specs.Views.{change_view, changes_view, frame_view}
use Rattle.pddl_evaluation.specs.Reads.{tested_by, tested_by_all}
use Rattle.pddl_evaluation.proofs.reads.+change_reads.Given as goal

abbrev pub invariant-add_changes_reads-loop-change : goal.invariant-add_changes_reads-loop-change
invariant-add_changes_reads-loop-change g l =
    let owns = g.S.AtomStore.owns in
    let content = g.S.AtomStore.content in
    record {
      own : owns l.store l.into;
      others_own : (t : _) → owns l.fn.store t → owns l.store t;
      others : (t : _) → owns l.fn.store t → content l.store t ≡ content l.fn.store t;
      rest : (x : AtomValue) → (tested_by_all (changes_view l.changes) (atom_eq x) (frame_view l.frame) || content l.fn.store l.fn.into x) ≡ (tested_by_all (changes_view (drop l.change-index l.changes)) (atom_eq x) (frame_view l.frame) || content l.store l.into x);
    }

abbrev pub invariant-add_change_reads_of_each-loop-object : goal.invariant-add_change_reads_of_each-loop-object
invariant-add_change_reads_of_each-loop-object g l =
    let owns = g.S.AtomStore.owns in
    let content = g.S.AtomStore.content in
    record {
      own : owns l.store l.into;
      others_own : (t : _) → owns l.fn.store t → owns l.store t;
      others : (t : _) → owns l.fn.store t → content l.store t ≡ content l.fn.store t;
      rest : (x : AtomValue) → (list_any (λ o. tested_by (change_view l.change) (atom_eq x) (o ∷ frame_view l.frame)) l.range || content l.fn.store l.fn.into x) ≡ (list_any (λ o. tested_by (change_view l.change) (atom_eq x) (o ∷ frame_view l.frame)) (drop l.object-index l.range) || content l.store l.into x);
    }
