-- Ground size: how many parts a formula or an effect has once its quantifiers are written out (own).
use Rattle.std.specs.Prelude.{ℕ, min, ◌+◌, ◌*◌, List, [], ◌∷◌, length}
use Rattle.pddl_formula.specs.TypedLists.{TypedValue}
use Rattle.pddl_formula.specs.Formulas.{FormulaValue, FormulaValues, atom, equal, negation, implication, conjunction, disjunction, existential, universal, no_formulas, formula}
use Rattle.pddl_effect.specs.Effects as effects
use Rattle.pddl_effect.specs.Effects.{EffectValue, EffectValues, conditional, addition, deletion, increase, no_effects, effect}
use Rattle.pddl_domain.specs.Actions.{ActionValue}
use Rattle.pddl_domain.specs.Declarations.{TypeValue}
use Rattle.pddl_task.specs.Names.{Name}
use Rattle.pddl_task.specs.Types.{fitting}

-- the largest ground size that a goal, or a step, may have
abbrev pub largest_size : ℕ
largest_size = 1000000

-- what is answered for a ground size: itself up to the largest, and one number for all beyond
abbrev pub capped : ℕ → ℕ
capped n = min n 1000001

-- how many objects fit a type
abbrev pub fitting_count : List TypeValue → List TypedValue → List Name → ℕ
fitting_count ps objects types = length (fitting ps objects types)

-- A quantifier, variable by variable: 1, and the size of what stands behind the variable for each object that fits it. The count
-- says how many objects fit a type.
abbrev pub quantifier_size : (List Name → ℕ) → List TypedValue → ℕ → ℕ
quantifier_size count [] body = 1 + body
quantifier_size count (x ∷ xs) body = 1 + count x.of * quantifier_size count xs body

-- a formula, and formulas in turn
abbrev mutual
  pub formula_size : (List Name → ℕ) → FormulaValue → ℕ
  formula_size count (atom a) = 1
  formula_size count (equal t u) = 1
  formula_size count (negation f) = 1 + formula_size count f
  formula_size count (implication f g) = 1 + (formula_size count f + formula_size count g)
  formula_size count (conjunction fs) = 1 + formulas_size count fs
  formula_size count (disjunction fs) = 1 + formulas_size count fs
  formula_size count (existential xs f) = quantifier_size count xs (formula_size count f)
  formula_size count (universal xs f) = quantifier_size count xs (formula_size count f)

  pub formulas_size : (List Name → ℕ) → FormulaValues → ℕ
  formulas_size count no_formulas = 0
  formulas_size count (formula f fs) = formula_size count f + formulas_size count fs

-- an effect, and effects in turn
abbrev mutual
  pub effect_size : (List Name → ℕ) → EffectValue → ℕ
  effect_size count (effects.conjunction es) = 1 + effects_size count es
  effect_size count (effects.universal xs e) = quantifier_size count xs (effect_size count e)
  effect_size count (conditional f e) = 1 + (formula_size count f + effect_size count e)
  effect_size count (addition a) = 1
  effect_size count (deletion a) = 1
  effect_size count (increase a) = 1

  pub effects_size : (List Name → ℕ) → EffectValues → ℕ
  effects_size count no_effects = 0
  effects_size count (effect e es) = effect_size count e + effects_size count es

-- a step of an action: its precondition and its effect
abbrev pub action_size : (List Name → ℕ) → ActionValue → ℕ
action_size count a = formula_size count a.precondition + effect_size count a.effect
