-- The condition of a formula and the change of an effect, case by case, as the program has them.
use Rattle.std.proofs.Common.{◌≡◌, true, List, [], ◌∷◌, map, refl, sym, ap, ◌∙◌, Vec, Box}
use Rattle.pddl_formula.specs.declared.type_names.Typed.{Typed}
use Rattle.pddl_formula.specs.TypedLists.{typed_view}
use Rattle.pddl_formula.specs.declared.term.Term.{Term}
use Rattle.pddl_formula.specs.declared.term.Atom.{Atom}
use Rattle.pddl_formula.specs.Terms.{term_view}
use Rattle.pddl_formula.specs.declared.formula.Formula.{Formula}
use Rattle.pddl_formula.specs.declared.formula.Formula.TheVariants as formulas
use Rattle.pddl_formula.specs.Formulas.{formula_view, formulas_of}
use Rattle.pddl_formula.proofs.Views as seen_formulas
use Rattle.pddl_effect.specs.declared.amount.Amount.{Amount}
use Rattle.pddl_effect.specs.declared.effect.Effect.{Effect}
use Rattle.pddl_effect.specs.declared.effect.Effect.TheVariants as effects
use Rattle.pddl_effect.specs.Effects.{amount_view, effect_view, effects_of}
use Rattle.pddl_effect.proofs.Views as seen_effects
use Rattle.pddl_task.specs.Names.{number_in}
use Rattle.pddl_compiled.specs.Compiled as value
use Rattle.pddl_compiled.specs.Tables.{Tables}
use Rattle.pddl_compiled.specs.Compiler.{ScopeValue, resolved, places_of, equal_of, increase_of, nested, condition_of, conditions_of_all, change_of, changes_of_all}

module _ {A : Type 0} (t : Tables) (scope : ScopeValue) where
  each_condition : (fs : List (Formula A)) → value.conditions_of (map (λ f. condition_of t (formula_view f) scope) fs) ≡ conditions_of_all t (formulas_of (map formula_view fs)) scope
  each_condition [] = refl
  each_condition (f ∷ fs) = ap (λ cs. value.condition (condition_of t (formula_view f) scope) cs) (each_condition fs)

  each_change : (es : List (Effect A)) → value.changes_of (map (λ e. change_of t (effect_view e) scope) es) ≡ changes_of_all t (effects_of (map effect_view es)) scope
  each_change [] = refl
  each_change (e ∷ es) = ap (λ cs. value.change (change_of t (effect_view e) scope) cs) (each_change es)

  pub atom_right : (f : Formula A) (a : Atom A) → f ≡ formulas.Atom a → value.atom (number_in t.predicates a.predicate) (places_of t scope (map term_view a.terms.items)) ≡ condition_of t (formula_view f) scope
  atom_right f a is = ap (λ v. condition_of t v scope) (sym (ap formula_view is ∙ seen_formulas.view_atom a))

  pub equal_right : (f : Formula A) (x y : Term A) → f ≡ formulas.Equal x y → equal_of t (resolved scope (term_view x)) (resolved scope (term_view y)) ≡ condition_of t (formula_view f) scope
  equal_right f x y is = ap (λ v. condition_of t v scope) (sym (ap formula_view is ∙ seen_formulas.view_equal x y))

  pub not_right : (f : Formula A) (p : Box (Formula A) A) → f ≡ formulas.Not p → value.negation (condition_of t (formula_view p.value) scope) ≡ condition_of t (formula_view f) scope
  not_right f p is = ap (λ v. condition_of t v scope) (sym (ap formula_view is ∙ seen_formulas.view_not p))

  pub imply_right : (f : Formula A) (p q : Box (Formula A) A) → f ≡ formulas.Imply p q → value.implication (condition_of t (formula_view p.value) scope) (condition_of t (formula_view q.value) scope) ≡ condition_of t (formula_view f) scope
  imply_right f p q is = ap (λ v. condition_of t v scope) (sym (ap formula_view is ∙ seen_formulas.view_imply p q))

  pub and_right : (f : Formula A) (fs : Vec (Formula A) A) → f ≡ formulas.And fs → value.conjunction (value.conditions_of (map (λ g. condition_of t (formula_view g) scope) fs.items)) ≡ condition_of t (formula_view f) scope
  and_right f fs is =
      ap value.conjunction (each_condition fs.items)
      ∙ ap (λ v. condition_of t v scope) (sym (ap formula_view is ∙ seen_formulas.view_and fs))

  pub or_right : (f : Formula A) (fs : Vec (Formula A) A) → f ≡ formulas.Or fs → value.disjunction (value.conditions_of (map (λ g. condition_of t (formula_view g) scope) fs.items)) ≡ condition_of t (formula_view f) scope
  or_right f fs is =
      ap value.disjunction (each_condition fs.items)
      ∙ ap (λ v. condition_of t v scope) (sym (ap formula_view is ∙ seen_formulas.view_or fs))

  pub exists_right : (f : Formula A) (xs : Vec (Typed A) A) (p : Box (Formula A) A) → f ≡ formulas.Exists xs p → nested value.existential (value.known true) t (map typed_view xs.items) (condition_of t (formula_view p.value)) scope ≡ condition_of t (formula_view f) scope
  exists_right f xs p is = ap (λ v. condition_of t v scope) (sym (ap formula_view is ∙ seen_formulas.view_exists xs p))

  pub forall_right : (f : Formula A) (xs : Vec (Typed A) A) (p : Box (Formula A) A) → f ≡ formulas.Forall xs p → nested value.universal (value.known true) t (map typed_view xs.items) (condition_of t (formula_view p.value)) scope ≡ condition_of t (formula_view f) scope
  forall_right f xs p is = ap (λ v. condition_of t v scope) (sym (ap formula_view is ∙ seen_formulas.view_forall xs p))

  pub each_right : (e : Effect A) (xs : Vec (Typed A) A) (p : Box (Effect A) A) → e ≡ effects.Forall xs p → nested value.each (value.both value.no_changes) t (map typed_view xs.items) (change_of t (effect_view p.value)) scope ≡ change_of t (effect_view e) scope
  each_right e xs p is = ap (λ v. change_of t v scope) (sym (ap effect_view is ∙ seen_effects.view_forall xs p))

  pub when_right : (e : Effect A) (f : Formula A) (p : Box (Effect A) A) → e ≡ effects.When f p → value.conditional (condition_of t (formula_view f) scope) (change_of t (effect_view p.value) scope) ≡ change_of t (effect_view e) scope
  when_right e f p is = ap (λ v. change_of t v scope) (sym (ap effect_view is ∙ seen_effects.view_when f p))

  pub add_right : (e : Effect A) (a : Atom A) → e ≡ effects.Add a → value.addition (number_in t.predicates a.predicate) (places_of t scope (map term_view a.terms.items)) ≡ change_of t (effect_view e) scope
  add_right e a is = ap (λ v. change_of t v scope) (sym (ap effect_view is ∙ seen_effects.view_add a))

  pub del_right : (e : Effect A) (a : Atom A) → e ≡ effects.Del a → value.deletion (number_in t.predicates a.predicate) (places_of t scope (map term_view a.terms.items)) ≡ change_of t (effect_view e) scope
  del_right e a is = ap (λ v. change_of t v scope) (sym (ap effect_view is ∙ seen_effects.view_del a))

  pub increase_right : (e : Effect A) (n : Amount A) → e ≡ effects.Increase n → increase_of t (amount_view n) scope ≡ change_of t (effect_view e) scope
  increase_right e n is = ap (λ v. change_of t v scope) (sym (ap effect_view is ∙ seen_effects.view_increase n))

  pub both_right : (e : Effect A) (es : Vec (Effect A) A) → e ≡ effects.And es → value.both (value.changes_of (map (λ g. change_of t (effect_view g) scope) es.items)) ≡ change_of t (effect_view e) scope
  both_right e es is =
      ap value.both (each_change es.items)
      ∙ ap (λ v. change_of t v scope) (sym (ap effect_view is ∙ seen_effects.view_and es))
