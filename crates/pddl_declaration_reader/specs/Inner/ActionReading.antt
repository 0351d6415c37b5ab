-- The actions that trees spell, computed from the trees, for the readers above. What they mean stands in Actions.
use Rattle.std.specs.Prelude.{ℕ, List, [], ◌∷◌, Option, Some, None, option_map, option_and_then, if◌then◌else◌, codes}
use Rattle.std.specs.List.{flat_map}
use Rattle.pddl_token.specs.Trees.{Tree}
use Rattle.pddl_items.specs.Inner.TreeReading.{both, name_at, is_keyword_at}
use Rattle.pddl_formula.specs.Formulas.{conjunction, no_formulas}
use Rattle.pddl_formula_reader.specs.Inner.Reading.{variables_at, condition_at}
use Rattle.pddl_effect.specs.Effects.{conjunction as all_effects, no_effects}
use Rattle.pddl_effect_reader.specs.Inner.EffectReading.{whole_effect_at}
use Rattle.pddl_domain.specs.Actions.{ActionValue, Field, parameters, precondition, effect, parameters_in, preconditions_in, effects_in}

abbrev pub field_at : Tree → Tree → Option Field
field_at key t =
    if is_keyword_at (codes ":parameters") key then option_map parameters (variables_at t)
    else (if is_keyword_at (codes ":precondition") key then option_map precondition (condition_at t)
    else (if is_keyword_at (codes ":effect") key then option_map effect (whole_effect_at t)
    else None))

abbrev pub fields_at : List Tree → Option (List Field)
fields_at [] = Some []
fields_at (key ∷ []) = None
fields_at (key ∷ t ∷ ts) = both (field_at key t) (fields_at ts)

abbrev pub only_or : {X : Type 0} → X → List X → Option X
only_or default [] = Some default
only_or default (y ∷ []) = Some y
only_or default (y ∷ z ∷ ys) = None

-- the action of this name and these fields
abbrev pub assembled : List ℕ → List Field → Option ActionValue
assembled n fields =
    option_and_then (λ xs. option_and_then (λ f. option_map (λ e. record { name = n; parameters = xs; precondition = f; effect = e })
    (only_or (all_effects no_effects) (flat_map effects_in fields)))
    (only_or (conjunction no_formulas) (flat_map preconditions_in fields)))
    (only_or [] (flat_map parameters_in fields))

abbrev pub action_of : List Tree → Option ActionValue
action_of [] = None
action_of (title ∷ ts) = option_and_then (λ n. option_and_then (assembled n) (fields_at ts)) (name_at title)
