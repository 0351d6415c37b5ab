use Rattle.std.proofs.Common.{◌≡◌, map, refl, Vec, Box}
use Rattle.pddl_build.specs.Results.{both_of}
use Rattle.pddl_build.proofs.Parts.{found_reads, both_reads, boxed_reads}
use Rattle.pddl_items.specs.ItemTrees.{item_tree}
use Rattle.pddl_formula.specs.declared.type_names.Typed.{Typed}
use Rattle.pddl_formula.specs.declared.formula.Formula.{Formula}
use Rattle.pddl_formula.specs.TypedLists.{typed_view}
use Rattle.pddl_formula.specs.Formulas.{formula_view, bound_view}
use Rattle.pddl_formula_reader.specs.Inner.Reading.{binding, quantifying, variables_at}
use Rattle.pddl_formula_reader.specs.declared.formula_reader.Quantifier.{Quantifier}
use Rattle.pddl_formula_reader.specs.declared.formula_reader.Quantifier.TheVariants as quantifiers
use Rattle.pddl_formula.proofs.Views.{view_exists, view_forall}
use Rattle.pddl_formula_reader.proofs.formula_reader.quantified.Goals as goal

view_binding : {A : Type 0} (q : Quantifier) (b : Vec (Typed A) A × Box (Formula A) A) → formula_view (binding q b) ≡ quantifying q (bound_view b).0 (bound_view b).1
view_binding quantifiers.Exists b = view_exists b.0 b.1
view_binding quantifiers.Forall b = view_forall b.0 b.1

pub returns : goal.returns
returns g c f body =
    let q = c.args.quantifier in
    let variables = variables_at (item_tree c.args.variables.now) in
    let both = both_of c.variables_of.result c.boxed.result in
    found_reads (binding q) formula_view bound_view (λ b. quantifying q b.0 b.1) (view_binding q) both c.bound.result _ c.bound.ensures
    (both_reads (λ v. map typed_view v.items) (λ b. formula_view b.value) c.variables_of.result c.boxed.result both variables f
    c.variables_of.ensures (boxed_reads formula_view c.args.body c.boxed.result f body c.boxed.ensures) refl)
