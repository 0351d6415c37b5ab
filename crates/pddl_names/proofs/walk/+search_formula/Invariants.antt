use Rattle.std.proofs.Common.{◌≡◌, map}
use Rattle.pddl_formula.specs.Formulas.{formula_view, formulas_of}
use Rattle.pddl_task.specs.Places.{places_in_all}
use Rattle.pddl_names.specs.Scopes.{bound_in}
use Rattle.pddl_names.specs.Uses.{faults_by, AreAllTold}
use Rattle.pddl_names.proofs.Walks.{FoundBefore}
use Rattle.pddl_names.proofs.walk.+search_formula.Given as goal

abbrev pub invariant-loop-part : goal.invariant-loop-part
invariant-loop-part g l = record {
  told : AreAllTold l.known l.told l.scope;
  kept : l.scope ≡ l.fn.scope;
  so_far : FoundBefore (faults_by l.known) (λ fs. places_in_all (formulas_of (map formula_view fs)) (bound_in l.fn.scope)) l.part-items l.part-index l.found;
}
