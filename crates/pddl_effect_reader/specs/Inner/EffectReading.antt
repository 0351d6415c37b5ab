-- The effects that trees spell, computed from the trees: what the readers answer, for the readers above. What it means stands in Effects.
use Rattle.std.specs.Prelude.{ℕ, List, [], ◌∷◌, map, Bool, false, Option, Some, None, option_map, option_and_then, if◌then◌else◌, codes}
use Rattle.pddl_token.specs.Trees.{Tree, Trees, leaf, node, no_trees, tree, list_of}
use Rattle.pddl_items.specs.Inner.TreeReading.{moment_by, name_at, is_word_at, all_of}
use Rattle.pddl_formula_reader.specs.declared.head.Head.{Head}
use Rattle.pddl_formula_reader.specs.declared.head.Head.TheVariants as heads
use Rattle.pddl_formula.specs.Terms.{TermValue}
use Rattle.pddl_formula_reader.specs.Inner.Reading.{term_at, atom_of, atom_at, variables_at, formula_at, head_at, only, quantified}
use Rattle.pddl_effect_reader.specs.declared.effect_reader.Scope.{Scope}
use Rattle.pddl_effect_reader.specs.declared.effect_reader.Scope.TheVariants as scopes
use Rattle.pddl_effect.specs.StaticNames.{static_function_of}
use Rattle.pddl_effect.specs.Effects.{FunctionTermValue, AmountValue, number, function, EffectValue, conjunction, universal, conditional, addition, deletion, increase, no_effects, effects_of}

-- ---- functions and their arguments

module _ {X : Type 0} (read : Tree → Option X) where
  abbrev pub call_of_list : List Tree → Option (List ℕ × List X)
  call_of_list [] = None
  call_of_list (head ∷ ts) = option_and_then (λ f. option_map (λ xs. (f, xs)) (all_of (map read ts))) (name_at head)

  -- a name and its arguments, or a bare name
  abbrev pub call_at : Tree → Option (List ℕ × List X)
  call_at (leaf w) = option_map (λ f. (f, [])) (name_at (leaf w))
  call_at (node ts) = call_of_list (list_of ts)

abbrev pub static_term : List ℕ × List TermValue → Option FunctionTermValue
static_term c = option_map (λ f. record { function = f; terms = c.1 }) (static_function_of c.0)

abbrev pub function_term_at : Tree → Option FunctionTermValue
function_term_at t = option_and_then static_term (call_at term_at t)

-- ---- increases

abbrev pub number_at : Tree → Option ℕ
number_at (leaf w) = moment_by w.kind w.text
number_at (node ts) = None

-- a number, or else a function's value
abbrev pub amount_of : Option ℕ → Option FunctionTermValue → Option AmountValue
amount_of (Some n) f = Some (number n)
amount_of None f = option_map function f

abbrev pub amount_at : Tree → Option AmountValue
amount_at t = amount_of (number_at t) (function_term_at t)

abbrev pub is_cost_list : List Tree → Bool
is_cost_list [] = false
is_cost_list (t ∷ []) = is_word_at (codes "total-cost") t
is_cost_list (t ∷ u ∷ ts) = false

-- whether a tree is the total cost
abbrev pub is_total_cost_at : Tree → Bool
is_total_cost_at (leaf w) = is_word_at (codes "total-cost") (leaf w)
is_total_cost_at (node ts) = is_cost_list (list_of ts)

-- the amount, of the trees behind `increase`
abbrev pub increase_of : List Tree → Option AmountValue
increase_of [] = None
increase_of (cost ∷ []) = None
increase_of (cost ∷ x ∷ []) = if is_total_cost_at cost then amount_at x else None
increase_of (cost ∷ x ∷ y ∷ ts) = None

-- ---- effects

-- a condition, and the one effect behind it
abbrev pub conditional_of : List Tree → List (Option EffectValue) → Option EffectValue
conditional_of [] os = None
conditional_of (c ∷ ts) [] = None
conditional_of (c ∷ ts) (o ∷ os) = option_and_then (λ f. option_map (conditional f) (only os)) (formula_at c)

-- an effect under what stands in front of it
abbrev pub scoped_of : Scope → List Tree → List (Option EffectValue) → Option EffectValue
scoped_of scopes.Variables ts os = quantified universal ts os
scoped_of scopes.Condition ts os = conditional_of ts os

-- the same of the tree in front, and the effect
abbrev pub scoped_by : Scope → Tree → Option EffectValue → Option EffectValue
scoped_by scopes.Variables t e = option_and_then (λ xs. option_map (universal xs) e) (variables_at t)
scoped_by scopes.Condition t e = option_and_then (λ f. option_map (conditional f) e) (formula_at t)

-- the effect of a list that holds no effect, with this head and these trees behind it
abbrev pub plain_by : Head → Tree → List Tree → Option EffectValue
plain_by heads.Not head ts = option_map deletion (only (map atom_at ts))
plain_by heads.Increase head ts = option_map increase (increase_of ts)
plain_by heads.Name head ts = option_map addition (atom_of head ts)
plain_by _ head ts = None

abbrev pub plain_of : Head → List Tree → Option EffectValue
plain_of kind [] = None
plain_of kind (head ∷ ts) = plain_by kind head ts

-- the effect of a list with this head, these trees behind it, and their effects
abbrev pub effect_by : Head → Tree → List Tree → List (Option EffectValue) → Option EffectValue
effect_by heads.And head ts os = option_map (λ es. conjunction (effects_of es)) (all_of os)
effect_by heads.Forall head ts os = quantified universal ts os
effect_by heads.When head ts os = conditional_of ts os
effect_by kind head ts os = plain_by kind head ts

-- the effect of a list of trees, beside the effect of each
abbrev pub effect_of_list : List Tree → List (Option EffectValue) → Option EffectValue
effect_of_list [] os = None
effect_of_list (head ∷ ts) [] = None
effect_of_list (head ∷ ts) (o ∷ os) = effect_by (head_at head) head ts os

unfoldable mutual
  pub effect_at : Tree → Option EffectValue
  effect_at (leaf w) = None
  effect_at (node ts) = effect_of_list (list_of ts) (effects_at ts)

  pub effects_at : Trees → List (Option EffectValue)
  effects_at no_trees = []
  effects_at (tree t ts) = effect_at t ∷ effects_at ts

abbrev pub whole_effect_of : Tree → Option EffectValue → Option EffectValue
whole_effect_of (node no_trees) o = Some (conjunction no_effects)
whole_effect_of _ o = o

-- an effect, or `()`
abbrev pub whole_effect_at : Tree → Option EffectValue
whole_effect_at t = whole_effect_of t (effect_at t)
