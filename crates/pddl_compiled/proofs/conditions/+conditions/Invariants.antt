use Rattle.std.proofs.Common.{◌≡◌, ◌++◌, map, drop}
use Rattle.pddl_formula.specs.Formulas.{formula_view}
use Rattle.pddl_compiled.specs.Compiler.{condition_of}
use Rattle.pddl_compiled.specs.Views.{condition_view}
use Rattle.pddl_compiled.specs.Scopes.{scope_view}
use Rattle.pddl_compiled.proofs.conditions.+conditions.Given as goal

-- the conditions so far, and those that are left
abbrev pub invariant-add_conditions-loop-formula : goal.invariant-add_conditions-loop-formula
invariant-add_conditions-loop-formula g l =
    let t = g.L.Lookups.tables l.lookups in
    map condition_view l.conditions.items ++ map (λ f. condition_of t (formula_view f) (scope_view l.scope)) (drop l.formula-index l.formulas.items) ≡ map condition_view l.fn.conditions.items ++ map (λ f. condition_of t (formula_view f) (scope_view l.scope)) l.formulas.items
