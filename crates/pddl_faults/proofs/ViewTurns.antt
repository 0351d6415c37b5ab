-- What is left of a list of formulas, and of one of effects: its first, and the rest.
use Rattle.std.proofs.Common.{◌≡◌, ℕ, ◌+◌, ◌<◌, List, map, length, get_or, drop, refl, add-one, drop-cons}
use Rattle.pddl_formula.specs.Formulas.{formula, formula_view, formulas_of}
use Rattle.pddl_formula.specs.declared.formula.Formula.{Formula}
use Rattle.pddl_effect.specs.Effects.{effect, effect_view, effects_of}
use Rattle.pddl_effect.specs.declared.effect.Effect.{Effect}

pub formulas-drop : {A : Type 0} (fs : List (Formula A)) (i : ℕ) (d : Formula A) → i < length fs
    → formulas_of (map formula_view (drop i fs)) ≡ formula (formula_view (get_or fs i d)) (formulas_of (map formula_view (drop (i + 1) fs)))
formulas-drop fs i d h = rw (add-one, drop-cons fs i d) refl

pub effects-drop : {A : Type 0} (es : List (Effect A)) (i : ℕ) (d : Effect A) → i < length es
    → effects_of (map effect_view (drop i es)) ≡ effect (effect_view (get_or es i d)) (effects_of (map effect_view (drop (i + 1) es)))
effects-drop es i d h = rw (add-one, drop-cons es i d) refl
