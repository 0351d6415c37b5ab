-- The canonical trees of terms, typed lists, formulas and effects: the one way in which they are printed (own).
use Rattle.std.specs.Prelude.{ℕ, List, [], ◌∷◌, ◌++◌, map, codes}
use Rattle.std.specs.List.{flat_map}
use Rattle.pddl_token.specs.declared.token.TokenKind.TheVariants.{Name, Variable, Number, Dash, Equal}
use Rattle.pddl_token.specs.NumberText.{number_text}
use Rattle.pddl_token.specs.Trees.{Tree, leaf}
use Rattle.pddl_token.specs.TreeWords.{list}
use Rattle.pddl_formula.specs.Terms.{TermValue, name, variable, AtomValue}
use Rattle.pddl_formula.specs.TypedLists.{TypedValue}
use Rattle.pddl_formula.specs.Formulas.{FormulaValue, atom, equal, negation, implication, conjunction, disjunction, existential, universal, FormulaValues, no_formulas, formula}
use Rattle.pddl_effect.specs.Effects as effects
use Rattle.pddl_effect.specs.Effects.{FunctionTermValue, AmountValue, number, function, EffectValue, EffectValues, no_effects, effect, conditional, addition, deletion, increase}

-- a name, or a word of the grammar
abbrev pub name_tree : List ℕ → Tree
name_tree n = leaf (record { kind = Name; text = n })

-- `?` and a name
abbrev pub variable_tree : List ℕ → Tree
variable_tree n = leaf (record { kind = Variable; text = codes "?" ++ n })

-- `-`
abbrev pub dash : Tree
dash = leaf (record { kind = Dash; text = codes "-" })

-- `=`
abbrev pub equal_sign : Tree
equal_sign = leaf (record { kind = Equal; text = codes "=" })

-- a number
abbrev pub number_tree : ℕ → Tree
number_tree n = leaf (record { kind = Number; text = number_text n })

abbrev pub term_tree : TermValue → Tree
term_tree (name n) = name_tree n
term_tree (variable n) = variable_tree n

abbrev pub atom_tree : AtomValue → Tree
atom_tree a = list (name_tree a.predicate ∷ map term_tree a.terms)

-- one primitive type as its name, several behind `either`
abbrev pub type_tree : List (List ℕ) → Tree
type_tree (n ∷ []) = name_tree n
type_tree names = list (name_tree (codes "either") ∷ map name_tree names)

-- each item has its own type, `object` too
abbrev pub typed_trees : (List ℕ → Tree) → List TypedValue → List Tree
typed_trees item_tree xs = flat_map (λ (x : TypedValue). item_tree x.item ∷ dash ∷ type_tree x.of ∷ []) xs

abbrev pub variables_tree : List TypedValue → Tree
variables_tree xs = list (typed_trees variable_tree xs)

abbrev mutual
  pub formula_tree : FormulaValue → Tree
  formula_tree (atom a) = atom_tree a
  formula_tree (equal x y) = list (equal_sign ∷ term_tree x ∷ term_tree y ∷ [])
  formula_tree (negation f) = list (name_tree (codes "not") ∷ formula_tree f ∷ [])
  formula_tree (implication f g) = list (name_tree (codes "imply") ∷ formula_tree f ∷ formula_tree g ∷ [])
  formula_tree (conjunction fs) = list (name_tree (codes "and") ∷ formula_trees fs)
  formula_tree (disjunction fs) = list (name_tree (codes "or") ∷ formula_trees fs)
  formula_tree (existential xs f) = list (name_tree (codes "exists") ∷ variables_tree xs ∷ formula_tree f ∷ [])
  formula_tree (universal xs f) = list (name_tree (codes "forall") ∷ variables_tree xs ∷ formula_tree f ∷ [])

  pub formula_trees : FormulaValues → List Tree
  formula_trees no_formulas = []
  formula_trees (formula f fs) = formula_tree f ∷ formula_trees fs

-- a function of terms stands in parentheses, also without terms
abbrev pub function_term_tree : FunctionTermValue → Tree
function_term_tree f = list (name_tree f.function ∷ map term_tree f.terms)

abbrev pub amount_tree : AmountValue → Tree
amount_tree (number n) = number_tree n
amount_tree (function f) = function_term_tree f

abbrev mutual
  pub effect_tree : EffectValue → Tree
  effect_tree (effects.conjunction es) = list (name_tree (codes "and") ∷ effect_trees es)
  effect_tree (effects.universal xs e) = list (name_tree (codes "forall") ∷ variables_tree xs ∷ effect_tree e ∷ [])
  effect_tree (conditional f e) = list (name_tree (codes "when") ∷ formula_tree f ∷ effect_tree e ∷ [])
  effect_tree (addition a) = atom_tree a
  effect_tree (deletion a) = list (name_tree (codes "not") ∷ atom_tree a ∷ [])
  effect_tree (increase a) = list (name_tree (codes "increase") ∷ list (name_tree (codes "total-cost") ∷ []) ∷ amount_tree a ∷ [])

  pub effect_trees : EffectValues → List Tree
  effect_trees no_effects = []
  effect_trees (effect e es) = effect_tree e ∷ effect_trees es
