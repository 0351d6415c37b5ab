-- The ground atoms that a step or a goal can speak of (own), and those that a task's tables know.
use Rattle.std.specs.Prelude.{◌≡◌, ℕ, Bool, true, ◌&&◌, List, [], ◌∷◌, ◌++◌, map, length, Contains}
use Rattle.std.specs.List.{list_all}
use Rattle.pddl_formula.specs.Formulas.{FormulaValue, FormulaValues, atom, equal, negation, implication, conjunction, disjunction, existential, universal, no_formulas, formula}
use Rattle.pddl_effect.specs.Effects as effects
use Rattle.pddl_effect.specs.Effects.{EffectValue, EffectValues, conditional, addition, deletion, increase, no_effects, effect}
use Rattle.pddl_domain.specs.Actions.{ActionValue}
use Rattle.pddl_problem.specs.Inits.{GroundValue}
use Rattle.pddl_task.specs.Names.{Name, is_in}
use Rattle.pddl_task.specs.Valuations.{Valuation, grounded, giving, over_valuations}
use Rattle.pddl_task.specs.Tasks.{TaskValue, object_names, predicate_names, function_names, fitting_names}

-- ---- what is spoken of, under a valuation; fit says which objects fit a type

-- the ground atoms in the expansion of a formula, or of formulas in turn
abbrev mutual
  pub formula_atoms : (List Name → List Name) → FormulaValue → Valuation → List GroundValue
  formula_atoms fit (atom a) v = grounded v a ∷ []
  formula_atoms fit (equal t u) v = []
  formula_atoms fit (negation f) v = formula_atoms fit f v
  formula_atoms fit (implication f g) v = formula_atoms fit f v ++ formula_atoms fit g v
  formula_atoms fit (conjunction fs) v = formulas_atoms fit fs v
  formula_atoms fit (disjunction fs) v = formulas_atoms fit fs v
  formula_atoms fit (existential xs f) v = over_valuations fit xs (formula_atoms fit f) v
  formula_atoms fit (universal xs f) v = over_valuations fit xs (formula_atoms fit f) v

  pub formulas_atoms : (List Name → List Name) → FormulaValues → Valuation → List GroundValue
  formulas_atoms fit no_formulas v = []
  formulas_atoms fit (formula f fs) v = formula_atoms fit f v ++ formulas_atoms fit fs v

-- a ground atom of an effect: read in a condition, added or deleted
pub data Spoken : Type 0 where
  is_read : GroundValue → Spoken
  is_added : GroundValue → Spoken
  is_deleted : GroundValue → Spoken

abbrev pub atom_of : Spoken → GroundValue
atom_of (is_read g) = g
atom_of (is_added g) = g
atom_of (is_deleted g) = g

-- it passes the test for its kind
abbrev pub tested : (GroundValue → Bool) → (GroundValue → Bool) → (GroundValue → Bool) → Spoken → Bool
tested read added deleted (is_read g) = read g
tested read added deleted (is_added g) = added g
tested read added deleted (is_deleted g) = deleted g

-- the ground atoms in the expansion of an effect, or of effects in turn, whatever holds
abbrev mutual
  pub effect_atoms : (List Name → List Name) → EffectValue → Valuation → List Spoken
  effect_atoms fit (effects.conjunction es) v = effects_atoms fit es v
  effect_atoms fit (effects.universal xs e) v = over_valuations fit xs (effect_atoms fit e) v
  effect_atoms fit (conditional f e) v = map is_read (formula_atoms fit f v) ++ effect_atoms fit e v
  effect_atoms fit (addition a) v = is_added (grounded v a) ∷ []
  effect_atoms fit (deletion a) v = is_deleted (grounded v a) ∷ []
  effect_atoms fit (increase a) v = []

  pub effects_atoms : (List Name → List Name) → EffectValues → Valuation → List Spoken
  effects_atoms fit no_effects v = []
  effects_atoms fit (effect e es) v = effect_atoms fit e v ++ effects_atoms fit es v

-- ---- what is known

-- the task has the names of a ground atom
abbrev pub is_known : TaskValue → GroundValue → Bool
is_known task g = is_in (predicate_names task) g.name && list_all (is_in (object_names task)) g.objects

-- the task has the names of a function of objects
abbrev pub is_known_call : TaskValue → GroundValue → Bool
is_known_call task g = is_in (function_names task) g.name && list_all (is_in (object_names task)) g.objects

-- each of these atoms is known
abbrev pub AreKnown : TaskValue → List GroundValue → Type 0
AreKnown task gs = (g : GroundValue) → Contains gs g → is_known task g ≡ true

-- As many objects of the task as an action has parameters: every atom that the precondition and the effect speak of is known.
abbrev pub StepsAreKnown : TaskValue → Type 0
StepsAreKnown task =
    (a : ActionValue) → Contains task.actions a → (os : List Name) → length os ≡ length a.parameters → list_all (is_in (object_names task)) os ≡ true
    → AreKnown task (formula_atoms (fitting_names task) a.precondition (giving a.parameters os []))
    × AreKnown task (map atom_of (effect_atoms (fitting_names task) a.effect (giving a.parameters os [])))

-- Every atom that the goal speaks of is known.
abbrev pub GoalIsKnown : TaskValue → Type 0
GoalIsKnown task = AreKnown task (formula_atoms (fitting_names task) task.goal [])

-- Every atom that holds at first is known.
abbrev pub InitialIsKnown : TaskValue → Type 0
InitialIsKnown task = AreKnown task task.initial

-- Every function of objects that `:init` gives a cost is known.
abbrev pub CostsAreKnown : TaskValue → Type 0
CostsAreKnown task = (g : GroundValue) (n : ℕ) → Contains task.costs (g, n) → is_known_call task g ≡ true
