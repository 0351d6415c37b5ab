-- The text of a tree, piece by piece.
use Rattle.std.proofs.Common.{◌≡◌, ℕ, List, [], ◌∷◌, ◌++◌, map, refl, sym, ap, ap₂, ◌∙◌, codes, append_assoc, append-nil}
use Rattle.pddl_token.specs.Trees.{Tree, trees_of}
use Rattle.pddl_text.specs.Pieces.{token, closing_word, pieces_text, tree_pieces, later_pieces, tree_text}
use Rattle.pddl_text.proofs.Written.{pieces_append}
use Rattle.pddl_token.specs.TreeWords.{list}
use Rattle.pddl_formula.specs.Terms.{TermValue, name, variable, AtomValue}
use Rattle.pddl_formula.specs.TypedLists.{TypedValue}
use Rattle.pddl_formula.specs.Formulas.{FormulaValue, atom, equal, negation, implication, conjunction, disjunction, existential, universal, FormulaValues, no_formulas, formula}
use Rattle.pddl_effect.specs.Effects as effects
use Rattle.pddl_effect.specs.Effects.{FunctionTermValue, AmountValue, number, function, EffectValue, EffectValues, no_effects, effect, conditional, addition, deletion, increase}
use Rattle.pddl_token.specs.NumberText.{number_text}
use Rattle.pddl_file_layout.specs.FormulaTrees.{name_tree, variable_tree, equal_sign, dash, term_tree, atom_tree, type_tree, typed_trees, variables_tree, formula_tree, formula_trees, function_term_tree, amount_tree, effect_tree, effect_trees}
use Rattle.pddl_file_layout.specs.Inner.Texts.{spaced_by, word_text, term_text, atom_text, type_text, typed_text, variables_text, formula_text, formulas_text, function_term_text, amount_text, effect_text, effects_text}

-- ---- lists

later_text : (ts : List Tree) → pieces_text (later_pieces (trees_of ts)) ≡ spaced_by tree_text ts
later_text [] = refl
later_text (t ∷ ts) = ap (λ (x : List ℕ). codes " " ++ x) (pieces_append (tree_pieces t) (later_pieces (trees_of ts)) ∙ ap (λ (x : List ℕ). tree_text t ++ x) (later_text ts))

-- the text of a list: its first tree, and the others each behind a space
pub node_text : (t : Tree) (ts : List Tree) → tree_text (list (t ∷ ts)) ≡ codes "(" ++ (tree_text t ++ (spaced_by tree_text ts ++ codes ")"))
node_text t ts =
    ap (λ (x : List ℕ). codes "(" ++ x)
    (pieces_append (tree_pieces t ++ later_pieces (trees_of ts)) (token closing_word ∷ [])
    ∙ (ap (λ (x : List ℕ). x ++ codes ")") (pieces_append (tree_pieces t) (later_pieces (trees_of ts)) ∙ ap (λ (x : List ℕ). tree_text t ++ x) (later_text ts))
    ∙ append_assoc (tree_text t) (spaced_by tree_text ts) (codes ")")))

module _ {X : Type 0} (tree : X → Tree) (text : X → List ℕ) (is : (x : X) → tree_text (tree x) ≡ text x) where
  pub spaced_as : (xs : List X) → spaced_by tree_text (map tree xs) ≡ spaced_by text xs
  spaced_as [] = refl
  spaced_as (x ∷ xs) = ap₂ (λ (a b : List ℕ). codes " " ++ (a ++ b)) (is x) (spaced_as xs)

  -- a list whose first tree has this text
  pub list_text : (head : Tree) (opening : List ℕ) → tree_text head ≡ opening → (xs : List X) → tree_text (list (head ∷ map tree xs)) ≡ codes "(" ++ (opening ++ (spaced_by text xs ++ codes ")"))
  list_text head opening head_is xs =
      node_text head (map tree xs) ∙ ap₂ (λ (a b : List ℕ). codes "(" ++ (a ++ (b ++ codes ")"))) head_is (spaced_as xs)

-- lists of one and of two trees behind their head
pub one_text : (head t : Tree) → tree_text (list (head ∷ t ∷ [])) ≡ codes "(" ++ (tree_text head ++ (codes " " ++ (tree_text t ++ codes ")")))
one_text head t =
    node_text head (t ∷ []) ∙ ap (λ (x : List ℕ). codes "(" ++ (tree_text head ++ (codes " " ++ (x ++ codes ")")))) (append-nil (tree_text t))

pub two_text : (head t u : Tree) → tree_text (list (head ∷ t ∷ u ∷ [])) ≡ codes "(" ++ (tree_text head ++ (codes " " ++ (tree_text t ++ (codes " " ++ (tree_text u ++ codes ")")))))
two_text head t u =
    node_text head (t ∷ u ∷ []) ∙ ap (λ (x : List ℕ). codes "(" ++ (tree_text head ++ (codes " " ++ x)))
    (append_assoc (tree_text t) (spaced_by tree_text (u ∷ [])) (codes ")") ∙ ap (λ (x : List ℕ). tree_text t ++ (codes " " ++ (x ++ codes ")"))) (append-nil (tree_text u)))

-- ---- terms and types

pub name_is : (n : List ℕ) → tree_text (name_tree n) ≡ n
name_is n = append-nil n

pub variable_is : (n : List ℕ) → tree_text (variable_tree n) ≡ codes "?" ++ n
variable_is n = append-nil (codes "?" ++ n)

pub term_is : (t : TermValue) → tree_text (term_tree t) ≡ term_text t
term_is (name n) = name_is n
term_is (variable n) = variable_is n

pub atom_is : (a : AtomValue) → tree_text (atom_tree a) ≡ atom_text a
atom_is a = list_text term_tree term_text term_is (name_tree a.predicate) a.predicate (name_is a.predicate) a.terms

pub type_is : (ns : List (List ℕ)) → tree_text (type_tree ns) ≡ type_text ns
type_is [] = refl
type_is (n ∷ []) = name_is n
type_is (n ∷ m ∷ ns) = list_text name_tree word_text name_is (name_tree (codes "either")) (codes "either") refl (n ∷ m ∷ ns)

-- ---- typed lists

-- an item, its dash and its type, before what follows
typed_front : (sign item type rest : List ℕ) → (sign ++ item) ++ (codes " - " ++ (type ++ rest)) ≡ (sign ++ (item ++ (codes " - " ++ type))) ++ rest
typed_front sign item type rest =
    append_assoc sign item (codes " - " ++ (type ++ rest))
    ∙ (ap (λ (x : List ℕ). sign ++ x) (sym (append_assoc item (codes " - " ++ type) rest)) ∙ sym (append_assoc sign (item ++ (codes " - " ++ type)) rest))

module _ (item_tree : List ℕ → Tree) (sign : List ℕ) (is : (n : List ℕ) → tree_text (item_tree n) ≡ sign ++ n) where
  pub typed_is : (xs : List TypedValue) → spaced_by tree_text (typed_trees item_tree xs) ≡ spaced_by (typed_text sign) xs
  typed_is [] = refl
  typed_is (x ∷ xs) =
      ap (λ (t : List ℕ). codes " " ++ t)
      (ap₂ (λ (a b : List ℕ). a ++ (codes " - " ++ b)) (is x.item) (ap₂ (λ (a b : List ℕ). a ++ b) (type_is x.of) (typed_is xs))
      ∙ typed_front sign x.item (type_text x.of) (spaced_by (typed_text sign) xs))

pub variables_is : (xs : List TypedValue) → tree_text (variables_tree xs) ≡ variables_text xs
variables_is [] = refl
variables_is (x ∷ xs) =
    let others = spaced_by (typed_text (codes "?")) xs in
    node_text (variable_tree x.item) (dash ∷ type_tree x.of ∷ typed_trees variable_tree xs)
    ∙ ap (λ (t : List ℕ). codes "(" ++ t)
    (ap₂ (λ (a b : List ℕ). a ++ (codes " - " ++ b)) (variable_is x.item)
    (ap₂ (λ (a b : List ℕ). (a ++ b) ++ codes ")") (type_is x.of) (typed_is variable_tree (codes "?") variable_is xs) ∙ append_assoc (type_text x.of) others (codes ")"))
    ∙ typed_front (codes "?") x.item (type_text x.of) (others ++ codes ")"))

-- ---- formulas

mutual
  pub formula_is : (f : FormulaValue) → tree_text (formula_tree f) ≡ formula_text f
  formula_is (atom a) = atom_is a
  formula_is (equal x y) =
      two_text equal_sign (term_tree x) (term_tree y) ∙ ap₂ (λ (a b : List ℕ). codes "(= " ++ (a ++ (codes " " ++ (b ++ codes ")")))) (term_is x) (term_is y)
  formula_is (negation f) = one_text (name_tree (codes "not")) (formula_tree f) ∙ ap (λ (a : List ℕ). codes "(not " ++ (a ++ codes ")")) (formula_is f)
  formula_is (implication f g) =
      two_text (name_tree (codes "imply")) (formula_tree f) (formula_tree g) ∙ ap₂ (λ (a b : List ℕ). codes "(imply " ++ (a ++ (codes " " ++ (b ++ codes ")")))) (formula_is f) (formula_is g)
  formula_is (conjunction fs) = node_text (name_tree (codes "and")) (formula_trees fs) ∙ ap (λ (a : List ℕ). codes "(and" ++ (a ++ codes ")")) (formulas_are fs)
  formula_is (disjunction fs) = node_text (name_tree (codes "or")) (formula_trees fs) ∙ ap (λ (a : List ℕ). codes "(or" ++ (a ++ codes ")")) (formulas_are fs)
  formula_is (existential xs f) =
      two_text (name_tree (codes "exists")) (variables_tree xs) (formula_tree f) ∙ ap₂ (λ (a b : List ℕ). codes "(exists " ++ (a ++ (codes " " ++ (b ++ codes ")")))) (variables_is xs) (formula_is f)
  formula_is (universal xs f) =
      two_text (name_tree (codes "forall")) (variables_tree xs) (formula_tree f) ∙ ap₂ (λ (a b : List ℕ). codes "(forall " ++ (a ++ (codes " " ++ (b ++ codes ")")))) (variables_is xs) (formula_is f)

  formulas_are : (fs : FormulaValues) → spaced_by tree_text (formula_trees fs) ≡ formulas_text fs
  formulas_are no_formulas = refl
  formulas_are (formula f fs) = ap₂ (λ (a b : List ℕ). codes " " ++ (a ++ b)) (formula_is f) (formulas_are fs)

-- ---- effects

pub number_is : (n : ℕ) → number_text n ++ [] ≡ number_text n
number_is n = append-nil (number_text n)

function_term_is : (f : FunctionTermValue) → tree_text (function_term_tree f) ≡ function_term_text f
function_term_is f = list_text term_tree term_text term_is (name_tree f.function) f.function (name_is f.function) f.terms

amount_is : (a : AmountValue) → tree_text (amount_tree a) ≡ amount_text a
amount_is (number n) = number_is n
amount_is (function f) = function_term_is f

mutual
  pub effect_is : (e : EffectValue) → tree_text (effect_tree e) ≡ effect_text e
  effect_is (effects.conjunction es) = node_text (name_tree (codes "and")) (effect_trees es) ∙ ap (λ (a : List ℕ). codes "(and" ++ (a ++ codes ")")) (effects_are es)
  effect_is (effects.universal xs e) =
      two_text (name_tree (codes "forall")) (variables_tree xs) (effect_tree e) ∙ ap₂ (λ (a b : List ℕ). codes "(forall " ++ (a ++ (codes " " ++ (b ++ codes ")")))) (variables_is xs) (effect_is e)
  effect_is (conditional f e) =
      two_text (name_tree (codes "when")) (formula_tree f) (effect_tree e) ∙ ap₂ (λ (a b : List ℕ). codes "(when " ++ (a ++ (codes " " ++ (b ++ codes ")")))) (formula_is f) (effect_is e)
  effect_is (addition a) = atom_is a
  effect_is (deletion a) = one_text (name_tree (codes "not")) (atom_tree a) ∙ ap (λ (x : List ℕ). codes "(not " ++ (x ++ codes ")")) (atom_is a)
  effect_is (increase a) =
      two_text (name_tree (codes "increase")) (list (name_tree (codes "total-cost") ∷ [])) (amount_tree a) ∙ ap (λ (x : List ℕ). codes "(increase (total-cost) " ++ (x ++ codes ")")) (amount_is a)

  effects_are : (es : EffectValues) → spaced_by tree_text (effect_trees es) ≡ effects_text es
  effects_are no_effects = refl
  effects_are (effect e es) = ap₂ (λ (a b : List ℕ). codes " " ++ (a ++ b)) (effect_is e) (effects_are es)
