-- Actions, and the trees that spell them (Kovacs, `<action-def>`; that the fields stand in any order is own).
use Rattle.std.specs.Prelude.{◌≡◌, ℕ, List, [], ◌∷◌, map, codes}
use Rattle.std.specs.List.{flat_map}
use Rattle.pddl_token.specs.Trees.{Tree}
use Rattle.pddl_token.specs.TreeWords.{SpellsName, IsKeyword}
use Rattle.pddl_formula.specs.TypedLists.{TypedValue, typed_view, IsVariableList}
use Rattle.pddl_formula.specs.Formulas.{FormulaValue, conjunction, no_formulas, formula_view, IsCondition}
use Rattle.pddl_effect.specs.Effects.{EffectValue, conjunction as all_effects, no_effects, effect_view, IsWholeEffect}
use Rattle.pddl_domain.specs.declared.domain.Action.{Action}

-- ---- values

-- an action
pub record ActionValue : Type 0 where
  pub name : List ℕ
  pub parameters : List TypedValue
  pub precondition : FormulaValue
  pub effect : EffectValue

-- a keyword of an action and what follows it
pub data Field : Type 0 where
  parameters : List TypedValue → Field
  precondition : FormulaValue → Field
  effect : EffectValue → Field

-- an action of the program without where it lies in memory
abbrev pub action_view : {A : _} → Action A → ActionValue
action_view a = record { name = a.name; parameters = map typed_view a.parameters.items; precondition = formula_view a.precondition; effect = effect_view a.effect }

-- the parameters that a field is
abbrev pub parameters_in : Field → List (List TypedValue)
parameters_in (parameters xs) = xs ∷ []
parameters_in field = []

-- the precondition that a field is
abbrev pub preconditions_in : Field → List FormulaValue
preconditions_in (precondition f) = f ∷ []
preconditions_in field = []

-- the effect that a field is
abbrev pub effects_in : Field → List EffectValue
effects_in (effect e) = e ∷ []
effects_in field = []

-- the value is the only one of these, or the default where there is none
abbrev pub OnlyOr : {X : Type 0} → X → List X → X → Type 0
OnlyOr default [] x = x ≡ default
OnlyOr default (y ∷ []) x = x ≡ y
OnlyOr default (y ∷ z ∷ ys) x = ⊥

-- ---- which trees spell them

-- a field is a keyword and what follows it
abbrev pub IsField : Field → Tree → Tree → Type 0
IsField (parameters xs) key t = IsKeyword (codes ":parameters") key × IsVariableList xs t
IsField (precondition f) key t = IsKeyword (codes ":precondition") key × IsCondition f t
IsField (effect e) key t = IsKeyword (codes ":effect") key × IsWholeEffect e t

-- fields in turn, two trees each
abbrev pub AreFields : List Field → List Tree → Type 0
AreFields [] [] = Unit {0}
AreFields (field ∷ fields) (key ∷ t ∷ ts) = IsField field key t × AreFields fields ts
AreFields _ _ = ⊥

-- The trees behind `:action` are an action: its name, and its fields in any order, each at most once. Without parameters it
-- has none; without a precondition, or an effect, it has the empty conjunction.
pub record IsAction (action : ActionValue) (ts : List Tree) : Type 0 where
  pub title : Tree
  pub rest : List Tree
  pub fields : List Field
  pub trees_are : ts ≡ title ∷ rest
  pub name : SpellsName action.name title
  pub fields_are : AreFields fields rest
  pub parameters_are : OnlyOr [] (flat_map parameters_in fields) action.parameters
  pub precondition_is : OnlyOr (conjunction no_formulas) (flat_map preconditions_in fields) action.precondition
  pub effect_is : OnlyOr (all_effects no_effects) (flat_map effects_in fields) action.effect
