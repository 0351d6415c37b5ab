-- What effects read, add, delete and cost.
use Rattle.std.specs.Prelude.{ℕ, ◌+◌, ◌/◌, cond, List, [], ◌∷◌, ◌++◌}
use Rattle.std.specs.List.{list_any}
use Rattle.pddl_effect.specs.Effects as effects
use Rattle.pddl_effect.specs.Effects.{AmountValue, number, function, EffectValue, EffectValues, conditional, addition, deletion, increase, no_effects, effect}
use Rattle.pddl_task.specs.Names.{Name}
use Rattle.pddl_task.specs.Faults.{billion, same_ground}
use Rattle.pddl_task.specs.Known.{Spoken, is_added, is_deleted, tested, effect_atoms}
use Rattle.pddl_task.specs.Valuations.{Valuation, grounded, over_valuations, grounded_call, sum_valuations}
use Rattle.pddl_meaning.specs.Worlds.{Atoms, no_atoms, World}
use Rattle.pddl_meaning.specs.Truth.{truth}

-- The atoms that an effect reads: those that the condition of each of its `when`s reads, under every valuation, whether it fires or
-- not (own).
abbrev pub effect_reads : (List Name → List Name) → EffectValue → Valuation → Atoms
effect_reads fit e v g = list_any (tested (same_ground g) no_atoms no_atoms) (effect_atoms fit e v)

-- The ground atoms that an effect, or effects in turn, add and delete in a state. Effects under `when` fire where its condition is
-- true in the state (Fox and Long).
abbrev mutual
  pub fired : (List Name → List Name) → Atoms → EffectValue → Valuation → List Spoken
  fired fit s (effects.conjunction es) v = all_fired fit s es v
  fired fit s (effects.universal xs e) v = over_valuations fit xs (fired fit s e) v
  fired fit s (conditional f e) v = cond (truth fit s f v) (fired fit s e v) []
  fired fit s (addition a) v = is_added (grounded v a) ∷ []
  fired fit s (deletion a) v = is_deleted (grounded v a) ∷ []
  fired fit s (increase a) v = []

  pub all_fired : (List Name → List Name) → Atoms → EffectValues → Valuation → List Spoken
  all_fired fit s no_effects v = []
  all_fired fit s (effect e es) v = fired fit s e v ++ all_fired fit s es v

-- The atoms that an effect adds in a state.
abbrev pub effect_adds : (List Name → List Name) → Atoms → EffectValue → Valuation → Atoms
effect_adds fit s e v g = list_any (tested no_atoms (same_ground g) no_atoms) (fired fit s e v)

-- The atoms that an effect deletes in a state.
abbrev pub effect_dels : (List Name → List Name) → Atoms → EffectValue → Valuation → Atoms
effect_dels fit s e v g = list_any (tested no_atoms no_atoms (same_ground g)) (fired fit s e v)

-- The amount of an increase, in whole numbers.
abbrev pub amount_of : World → AmountValue → Valuation → ℕ
amount_of w (number n) v = n / billion
amount_of w (function f) v = w.price (grounded_call v f)

-- What an effect costs in a state: the sum of the amounts of its increases under every valuation whose conditions are true there
-- (own).
abbrev mutual
  pub effect_cost : World → Atoms → EffectValue → Valuation → ℕ
  effect_cost w s (effects.conjunction es) v = effects_cost w s es v
  effect_cost w s (effects.universal xs e) v = sum_valuations w.fit xs (effect_cost w s e) v
  effect_cost w s (conditional f e) v = cond (truth w.fit s f v) (effect_cost w s e v) 0
  effect_cost w s (addition a) v = 0
  effect_cost w s (deletion a) v = 0
  effect_cost w s (increase a) v = amount_of w a v

  pub effects_cost : World → Atoms → EffectValues → Valuation → ℕ
  effects_cost w s no_effects v = 0
  effects_cost w s (effect e es) v = effect_cost w s e v + effects_cost w s es v
