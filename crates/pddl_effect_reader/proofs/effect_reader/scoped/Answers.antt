use Rattle.std.proofs.Common.{map, refl}
use Rattle.pddl_build.specs.Results.{both_of}
use Rattle.pddl_build.proofs.Parts.{found_reads, both_reads, boxed_reads}
use Rattle.pddl_items.specs.ItemTrees.{item_tree}
use Rattle.pddl_formula.specs.TypedLists.{typed_view}
use Rattle.pddl_formula.specs.Formulas.{formula_view}
use Rattle.pddl_formula_reader.specs.Inner.Reading.{variables_at, formula_at}
use Rattle.pddl_formula_reader.proofs.TurnsOfFormulas.{made_of_two}
use Rattle.pddl_effect.specs.declared.effect.Effect.TheVariants as cases
use Rattle.pddl_effect.specs.Effects.{universal, conditional, effect_view}
use Rattle.pddl_effect.proofs.Views.{view_forall, view_when}
use Rattle.pddl_effect_reader.proofs.effect_reader.scoped.Goals as goal

pub returns-in-Variables : goal.returns-in-Variables
returns-in-Variables g c e body =
    let variables = variables_at (item_tree c.args.item.now) in
    rw (c.in-Variables.is, made_of_two universal variables e)
    (found_reads (λ p. cases.Forall p.0 p.1) effect_view (λ p. (map typed_view p.0.items, effect_view p.1.value)) (λ p. universal p.0 p.1) (λ p. view_forall p.0 p.1)
    (both_of c.variables_of.result c.boxed-body.result) c.universal.result _ c.universal.ensures
    (both_reads (λ v. map typed_view v.items) (λ b. effect_view b.value) c.variables_of.result c.boxed-body.result (both_of c.variables_of.result c.boxed-body.result)
    variables e c.variables_of.ensures (boxed_reads effect_view c.args.body c.boxed-body.result e body c.boxed-body.ensures) refl))

pub returns-in-Condition : goal.returns-in-Condition
returns-in-Condition g c e body =
    let condition = formula_at (item_tree c.args.item.now) in
    rw (c.in-Condition.is, made_of_two conditional condition e)
    (found_reads (λ p. cases.When p.0 p.1) effect_view (λ p. (formula_view p.0, effect_view p.1.value)) (λ p. conditional p.0 p.1) (λ p. view_when p.0 p.1)
    (both_of c.formula_of.result c.boxed-body.result) c.conditional.result _ c.conditional.ensures
    (both_reads formula_view (λ b. effect_view b.value) c.formula_of.result c.boxed-body.result (both_of c.formula_of.result c.boxed-body.result)
    condition e c.formula_of.ensures (boxed_reads effect_view c.args.body c.boxed-body.result e body c.boxed-body.ensures) refl))
