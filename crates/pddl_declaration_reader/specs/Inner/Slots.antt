-- An action's fields as they are read one after the other. No public contract names these.
use Rattle.std.specs.Prelude.{◌≡◌, ℕ, Bool, List, [], ◌∷◌, map, Option, Some, None, option_map, option_and_then}
use Rattle.std.specs.Bool.{then_some}
use Rattle.pddl_build.specs.Found.{filled}
use Rattle.pddl_token.specs.Trees.{Tree}
use Rattle.pddl_formula.specs.TypedLists.{TypedValue, typed_view}
use Rattle.pddl_formula.specs.Formulas.{FormulaValue, conjunction, no_formulas, formula_view}
use Rattle.pddl_effect.specs.Effects.{EffectValue, conjunction as all_effects, no_effects, effect_view}
use Rattle.pddl_declaration_reader.specs.declared.action_reader.Slots.{Slots}
use Rattle.pddl_domain.specs.Actions.{ActionValue, Field, parameters, precondition, effect}
use Rattle.pddl_declaration_reader.specs.Inner.ActionReading.{field_at}

-- what stood so far, each field at most once
pub record SlotValues : Type 0 where
  pub lists : Option (List TypedValue)
  pub conditions : Option FormulaValue
  pub outcomes : Option EffectValue

-- the fields of the program without where they lie in memory
abbrev pub slots_view : {A : _} → Slots A → SlotValues
slots_view s = record { lists = option_map (λ v. map typed_view v.items) s.parameters; conditions = option_map formula_view s.precondition; outcomes = option_map effect_view s.effect }

abbrev pub no_slots : SlotValues
no_slots = record { lists = None; conditions = None; outcomes = None }

-- one more field, which did not stand before
abbrev pub with_field : SlotValues → Field → Option SlotValues
with_field s (parameters xs) = filled s.lists (record { lists = Some xs; conditions = s.conditions; outcomes = s.outcomes })
with_field s (precondition f) = filled s.conditions (record { lists = s.lists; conditions = Some f; outcomes = s.outcomes })
with_field s (effect e) = filled s.outcomes (record { lists = s.lists; conditions = s.conditions; outcomes = Some e })

-- one more field, if there is one
abbrev pub after_field : SlotValues → Option Field → Option SlotValues
after_field s field = option_and_then (with_field s) field

-- the fields of some trees, two trees each
unfoldable pub slots_from : SlotValues → List Tree → Option SlotValues
slots_from s [] = Some s
slots_from s (key ∷ []) = None
slots_from s (key ∷ t ∷ ts) = option_and_then (λ next. slots_from next ts) (after_field s (field_at key t))

-- the field was added, exactly where there is one and it did not stand before
abbrev pub AddsField : Option Field → SlotValues → SlotValues → Bool → Type 0
AddsField field before after added = then_some added after ≡ after_field before field

-- the value, or the default where there is none
abbrev pub given_or : {X : Type 0} → X → Option X → X
given_or default None = default
given_or default (Some x) = x

-- the action of this name and these fields
abbrev pub action_by : List ℕ → SlotValues → ActionValue
action_by n s = record { name = n; parameters = given_or [] s.lists; precondition = given_or (conjunction no_formulas) s.conditions; effect = given_or (all_effects no_effects) s.outcomes }
