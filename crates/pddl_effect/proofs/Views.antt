-- What effects look like without memory.
use Rattle.std.proofs.Common.{◌≡◌, map, Vec, Box, sym, ap, ◌∙◌}
use Rattle.pddl_formula.specs.declared.type_names.Typed.{Typed}
use Rattle.pddl_formula.specs.declared.term.Atom.{Atom}
use Rattle.pddl_formula.specs.declared.formula.Formula.{Formula}
use Rattle.pddl_formula.specs.Terms.{atom_view}
use Rattle.pddl_formula.specs.TypedLists.{typed_view}
use Rattle.pddl_formula.specs.Formulas.{formula_view}
use Rattle.pddl_effect.specs.declared.amount.Amount.{Amount}
use Rattle.pddl_effect.specs.declared.effect.Effect.{Effect}
use Rattle.pddl_effect.specs.declared.effect.Effect.TheOpen.{Effect-F}
use Rattle.pddl_effect.specs.declared.effect.Effect.TheVariants.{And, Forall, When, Add, Del, Increase, rolls-And, rolls-Forall, rolls-When, rolls-Add, rolls-Del, rolls-Increase}
use Rattle.pddl_effect.specs.declared.effect.Effect.TheFolds.{fold-roll-Effect}
use Rattle.pddl_effect.specs.Effects.{EffectValue, conjunction, universal, conditional, addition, deletion, increase, effects_of, amount_view, effect_step, effect_view}

module _ {A : Type 0} where
  pub view_and : (v : Vec (Effect A) A) → effect_view (And v) ≡ conjunction (effects_of (map effect_view v.items))
  view_and v = ap effect_view (sym (rolls-And v)) ∙ fold-roll-Effect _ EffectValue effect_step (Effect-F.And v)

  pub view_forall : (v : Vec (Typed A) A) (p : Box (Effect A) A) → effect_view (Forall v p) ≡ universal (map typed_view v.items) (effect_view p.value)
  view_forall v p = ap effect_view (sym (rolls-Forall v p)) ∙ fold-roll-Effect _ EffectValue effect_step (Effect-F.Forall v p)

  pub view_when : (f : Formula A) (p : Box (Effect A) A) → effect_view (When f p) ≡ conditional (formula_view f) (effect_view p.value)
  view_when f p = ap effect_view (sym (rolls-When f p)) ∙ fold-roll-Effect _ EffectValue effect_step (Effect-F.When f p)

  pub view_add : (a : Atom A) → effect_view (Add a) ≡ addition (atom_view a)
  view_add a = ap effect_view (sym (rolls-Add a)) ∙ fold-roll-Effect _ EffectValue effect_step (Effect-F.Add a)

  pub view_increase : (a : Amount A) → effect_view (Increase a) ≡ increase (amount_view a)
  view_increase a = ap effect_view (sym (rolls-Increase a)) ∙ fold-roll-Effect _ EffectValue effect_step (Effect-F.Increase a)

  pub view_del : (a : Atom A) → effect_view (Del a) ≡ deletion (atom_view a)
  view_del a = ap effect_view (sym (rolls-Del a)) ∙ fold-roll-Effect _ EffectValue effect_step (Effect-F.Del a)
