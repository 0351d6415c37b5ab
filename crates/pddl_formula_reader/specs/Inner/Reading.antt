-- The values that trees spell, computed from the trees, for the readers above. What they mean stands in Terms, TypedLists and
-- Formulas.
use Rattle.std.specs.Prelude.{ℕ, List, [], ◌∷◌, ◌++◌, map, Vec, Box, Bool, true, false, Option, Some, None, option_map, option_and_then, if◌then◌else◌, codes}
use Rattle.std.specs.Str.{bytes_eq}
use Rattle.pddl_token.specs.declared.token.TokenKind.{TokenKind}
use Rattle.pddl_token.specs.declared.token.TokenKind.TheVariants.{Name, Variable, Equal}
use Rattle.pddl_token.specs.Trees.{Tree, Trees, leaf, node, no_trees, tree, list_of}
use Rattle.pddl_token.specs.Names.{folded, name_of}
use Rattle.pddl_items.specs.Inner.TreeReading.{name_at, variable_name, variable_at, is_word_at, is_dash, all_of}
use Rattle.pddl_formula_reader.specs.declared.formula_reader.Quantifier.{Quantifier}
use Rattle.pddl_formula_reader.specs.declared.formula_reader.Quantifier.TheVariants as quantifiers
use Rattle.pddl_formula_reader.specs.declared.head.Head.{Head}
use Rattle.pddl_formula_reader.specs.declared.head.Head.TheVariants as heads
use Rattle.pddl_formula.specs.declared.type_names.Typed.{Typed}
use Rattle.pddl_formula.specs.declared.formula.Formula.{Formula}
use Rattle.pddl_formula.specs.declared.formula.Formula.TheVariants as cases
use Rattle.pddl_formula.specs.Reserved.{predicate_of, type_name_of, type_of}
use Rattle.pddl_formula.specs.Terms.{TermValue, name, variable, AtomValue}
use Rattle.pddl_formula.specs.TypedLists.{WithType, TypedValue, object, of_type}
use Rattle.pddl_formula.specs.Formulas.{FormulaValue, atom, equal, negation, implication, conjunction, disjunction, existential, universal, no_formulas, formulas_of}

-- ---- terms and atoms

abbrev pub term_by : TokenKind → List ℕ → Option TermValue
term_by Name text = option_map name (name_of text)
term_by Variable text = option_map variable (variable_name text)
term_by _ text = None

abbrev pub term_at : Tree → Option TermValue
term_at (leaf w) = term_by w.kind w.text
term_at (node ts) = None

abbrev pub predicate_at : Tree → Option (List ℕ)
predicate_at t = option_and_then predicate_of (name_at t)

-- the atom of this head and these arguments
abbrev pub atom_of : Tree → List Tree → Option AtomValue
atom_of head ts = option_and_then (λ p. option_map (λ xs. record { predicate = p; terms = xs }) (all_of (map term_at ts))) (predicate_at head)

abbrev pub atom_of_list : List Tree → Option AtomValue
atom_of_list [] = None
atom_of_list (head ∷ ts) = atom_of head ts

abbrev pub atom_at : Tree → Option AtomValue
atom_at (leaf w) = None
atom_at (node ts) = atom_of_list (list_of ts)

-- ---- types and typed lists

abbrev pub type_name_at : Tree → Option (List ℕ)
type_name_at t = option_and_then type_name_of (name_at t)

abbrev pub either_of : List Tree → Option (List (List ℕ))
either_of [] = None
either_of (head ∷ ts) = if is_word_at (codes "either") head then option_and_then type_of (all_of (map type_name_at ts)) else None

abbrev pub type_at : Tree → Option (List (List ℕ))
type_at (leaf w) = option_map (λ n. n ∷ []) (type_name_at (leaf w))
type_at (node ts) = either_of (list_of ts)

-- the list, unless it is empty
abbrev pub nonempty : {A : Type 0} → List A → Option (List A)
nonempty [] = None
nonempty (x ∷ xs) = Some (x ∷ xs)

module _ {X T : Type 0} (read_item : Tree → Option X) (read_type : Tree → Option T) (default : T) where
  -- The typed list of the trees, behind what was found and the items that wait for their type; the flag says that a dash
  -- stands before the trees.
  unfoldable pub typed_from : List (WithType X T) → List X → Bool → List Tree → Option (List (WithType X T))
  typed_from found group true [] = None
  typed_from found group false [] = Some (found ++ of_type group default)
  typed_from found group true (t ∷ ts) = option_and_then (λ type. typed_from (found ++ of_type group type) [] false ts) (read_type t)
  typed_from found group false (t ∷ ts) =
      if is_dash t then option_and_then (λ xs. typed_from found xs true ts) (nonempty group)
      else option_and_then (λ x. typed_from found (group ++ x ∷ []) false ts) (read_item t)

  abbrev pub typed_list : List Tree → Option (List (WithType X T))
  typed_list ts = typed_from [] [] false ts

abbrev pub typed_names : List Tree → Option (List TypedValue)
typed_names ts = typed_list name_at type_at object ts

abbrev pub typed_variables : List Tree → Option (List TypedValue)
typed_variables ts = typed_list variable_at type_at object ts

abbrev pub variables_at : Tree → Option (List TypedValue)
variables_at (leaf w) = None
variables_at (node ts) = typed_variables (list_of ts)

-- ---- formulas

-- what a name heads
abbrev pub word_head : List ℕ → Head
word_head n =
    if bytes_eq n (codes "and") then heads.And
    else (if bytes_eq n (codes "or") then heads.Or
    else (if bytes_eq n (codes "not") then heads.Not
    else (if bytes_eq n (codes "imply") then heads.Imply
    else (if bytes_eq n (codes "exists") then heads.Exists
    else (if bytes_eq n (codes "forall") then heads.Forall
    else (if bytes_eq n (codes "when") then heads.When
    else (if bytes_eq n (codes "increase") then heads.Increase
    else heads.Name)))))))

abbrev pub head_by : TokenKind → List ℕ → Head
head_by Name text = word_head (folded text)
head_by Equal text = heads.Equal
head_by _ text = heads.Nothing

-- what a tree is as the head of a list
abbrev pub head_at : Tree → Head
head_at (leaf w) = head_by w.kind w.text
head_at (node ts) = heads.Nothing

-- what stands behind the first
abbrev pub behind : {A : Type 0} → List A → List A
behind [] = []
behind (x ∷ xs) = xs

-- the only value
abbrev pub only : {A : Type 0} → List (Option A) → Option A
only [] = None
only (o ∷ []) = o
only (o ∷ p ∷ os) = None

abbrev pub pair_of : {A B : Type 0} → Option A → Option B → Option (A × B)
pair_of None p = None
pair_of (Some x) None = None
pair_of (Some x) (Some y) = Some (x, y)

-- two values, and no more
abbrev pub two : {A : Type 0} → List (Option A) → Option (A × A)
two [] = None
two (o ∷ []) = None
two (o ∷ p ∷ []) = pair_of o p
two (o ∷ p ∷ q ∷ os) = None

-- typed variables in parentheses, and the one value behind them
abbrev pub quantified : {F G : Type 0} → (List TypedValue → F → G) → List Tree → List (Option F) → Option G
quantified make [] os = None
quantified make (vs ∷ ts) [] = None
quantified make (vs ∷ ts) (o ∷ os) = option_and_then (λ xs. option_map (make xs) (only os)) (variables_at vs)

-- the formula of the program that a quantifier makes of variables and a formula
abbrev pub binding : {A : Type 0} → Quantifier → Vec (Typed A) A × Box (Formula A) A → Formula A
binding quantifiers.Exists b = cases.Exists b.0 b.1
binding quantifiers.Forall b = cases.Forall b.0 b.1

-- what a quantifier makes of variables and a formula
abbrev pub quantifying : Quantifier → List TypedValue → FormulaValue → FormulaValue
quantifying quantifiers.Exists xs f = existential xs f
quantifying quantifiers.Forall xs f = universal xs f

abbrev pub equality_of : List Tree → Option FormulaValue
equality_of ts = option_map (λ p. equal p.0 p.1) (two (map term_at ts))

-- the formula of a list with this head, these trees behind it, and their formulas
abbrev pub formula_by : Head → Tree → List Tree → List (Option FormulaValue) → Option FormulaValue
formula_by heads.And head ts os = option_map (λ fs. conjunction (formulas_of fs)) (all_of os)
formula_by heads.Or head ts os = option_map (λ fs. disjunction (formulas_of fs)) (all_of os)
formula_by heads.Not head ts os = option_map negation (only os)
formula_by heads.Imply head ts os = option_map (λ p. implication p.0 p.1) (two os)
formula_by heads.Exists head ts os = quantified existential ts os
formula_by heads.Forall head ts os = quantified universal ts os
formula_by heads.When head ts os = None
formula_by heads.Increase head ts os = None
formula_by heads.Name head ts os = option_map atom (atom_of head ts)
formula_by heads.Equal head ts os = equality_of ts
formula_by heads.Nothing head ts os = None

-- the formula of a list of trees, beside the formula of each
abbrev pub formula_of_list : List Tree → List (Option FormulaValue) → Option FormulaValue
formula_of_list [] os = None
formula_of_list (head ∷ ts) [] = None
formula_of_list (head ∷ ts) (o ∷ os) = formula_by (head_at head) head ts os

unfoldable mutual
  pub formula_at : Tree → Option FormulaValue
  formula_at (leaf w) = None
  formula_at (node ts) = formula_of_list (list_of ts) (formulas_at ts)

  pub formulas_at : Trees → List (Option FormulaValue)
  formulas_at no_trees = []
  formulas_at (tree t ts) = formula_at t ∷ formulas_at ts

abbrev pub condition_of : Tree → Option FormulaValue → Option FormulaValue
condition_of (node no_trees) o = Some (conjunction no_formulas)
condition_of _ o = o

-- a formula, or `()`
abbrev pub condition_at : Tree → Option FormulaValue
condition_at t = condition_of t (formula_at t)
