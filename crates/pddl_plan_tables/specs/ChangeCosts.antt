-- The functions of objects that changes can add the cost of (own).
use Rattle.std.specs.Prelude.{◌≡◌, ℕ, Bool, true, false, not, ◌||◌, ◌∷◌, Option, is_some}
use Rattle.std.specs.List.{list_any}
use Rattle.pddl_effect.specs.Effects as effects
use Rattle.pddl_effect.specs.Effects.{AmountValue, EffectValue, EffectValues}
use Rattle.pddl_state.specs.Atoms.{AtomValue}
use Rattle.pddl_compiled.specs.Compiled.{ChangeValue, both, each, conditional, addition, deletion, increase, increase_by, ChangeValues, no_changes, change}
use Rattle.pddl_compiled.specs.CompiledMeaning.{FrameValue, atom_in}

-- a function of objects has no cost
abbrev pub is_unpriced : (AtomValue → Option ℕ) → AtomValue → Bool
is_unpriced prices call = not (is_some (prices call))

-- Some function of objects that a change can add the cost of passes a test, whatever holds.
abbrev mutual
  pub some_cost : ChangeValue → (AtomValue → Bool) → FrameValue → Bool
  some_cost (both cs) test env = some_cost_in cs test env
  some_cost (each range c) test env = list_any (λ o. some_cost c test (o ∷ env)) range
  some_cost (conditional c d) test env = some_cost d test env
  some_cost (addition p ps) test env = false
  some_cost (deletion p ps) test env = false
  some_cost (increase f ps) test env = test (atom_in env f ps)
  some_cost (increase_by n) test env = false

  pub some_cost_in : ChangeValues → (AtomValue → Bool) → FrameValue → Bool
  some_cost_in no_changes test env = false
  some_cost_in (change c cs) test env = some_cost c test env || some_cost_in cs test env

-- Two changes can add the cost of the same functions of objects.
abbrev pub HasSameCosts : ChangeValue → ChangeValue → Type 0
HasSameCosts c d = (test : AtomValue → Bool) (env : FrameValue) → some_cost c test env ≡ some_cost d test env

-- An increase of an effect has a function term.
abbrev pub is_function : AmountValue → Bool
is_function (effects.number n) = false
is_function (effects.function f) = true

abbrev mutual
  pub has_function : EffectValue → Bool
  has_function (effects.conjunction es) = some_has_function es
  has_function (effects.universal xs e) = has_function e
  has_function (effects.conditional f e) = has_function e
  has_function (effects.addition a) = false
  has_function (effects.deletion a) = false
  has_function (effects.increase a) = is_function a

  pub some_has_function : EffectValues → Bool
  some_has_function effects.no_effects = false
  some_has_function (effects.effect e es) = has_function e || some_has_function es
