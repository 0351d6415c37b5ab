-- Formulas, and the trees that spell them (Kovacs, `<GD>`, without preferences and comparisons).
use Rattle.std.specs.Prelude.{◌≡◌, ◌⊎◌, List, [], ◌∷◌, Vec, Box, map, codes}
use Rattle.pddl_token.specs.Trees.{Tree}
use Rattle.pddl_token.specs.TreeWords.{list, IsWord, IsEqualSign}
use Rattle.pddl_formula.specs.Terms.{TermValue, AtomValue, term_view, atom_view, IsTerm, IsAtom}
use Rattle.pddl_formula.specs.TypedLists.{TypedValue, typed_view, IsVariableList}
use Rattle.pddl_formula.specs.declared.type_names.Typed.{Typed}
use Rattle.pddl_formula.specs.declared.formula.Formula.{Formula}
use Rattle.pddl_formula.specs.declared.formula.Formula.TheOpen.{Formula-F}
use Rattle.pddl_formula.specs.declared.formula.Formula.TheFolds.{fold-Formula}

-- ---- values

-- a formula, and formulas in turn
mutual
  pub data FormulaValue : Type 0 where
    atom : AtomValue → FormulaValue
    equal : TermValue → TermValue → FormulaValue
    negation : FormulaValue → FormulaValue
    implication : FormulaValue → FormulaValue → FormulaValue
    conjunction : FormulaValues → FormulaValue
    disjunction : FormulaValues → FormulaValue
    existential : List TypedValue → FormulaValue → FormulaValue
    universal : List TypedValue → FormulaValue → FormulaValue

  pub data FormulaValues : Type 0 where
    no_formulas : FormulaValues
    formula : FormulaValue → FormulaValues → FormulaValues

-- formulas of a list
abbrev pub formulas_of : List FormulaValue → FormulaValues
formulas_of [] = no_formulas
formulas_of (f ∷ fs) = formula f (formulas_of fs)

-- one level of a formula of the program, the formulas in it seen already
abbrev pub formula_step : {A : _} → Formula-F A FormulaValue → FormulaValue
formula_step (Formula-F.Atom a) = atom (atom_view a)
formula_step (Formula-F.Equal x y) = equal (term_view x) (term_view y)
formula_step (Formula-F.Not f) = negation f.value
formula_step (Formula-F.Imply f g) = implication f.value g.value
formula_step (Formula-F.And fs) = conjunction (formulas_of fs.items)
formula_step (Formula-F.Or fs) = disjunction (formulas_of fs.items)
formula_step (Formula-F.Exists xs f) = existential (map typed_view xs.items) f.value
formula_step (Formula-F.Forall xs f) = universal (map typed_view xs.items) f.value

-- a formula of the program without where it lies in memory
abbrev pub formula_view : {A : _} → Formula A → FormulaValue
formula_view = fold-Formula _ FormulaValue formula_step

-- variables of the program, and the formula that they are bound in, likewise
abbrev pub bound_view : {A : _} → Vec (Typed A) A × Box (Formula A) A → List TypedValue × FormulaValue
bound_view b = (map typed_view b.0.items, formula_view b.1.value)

-- ---- which trees spell them

-- A tree spells a formula, by its head.
abbrev mutual
  pub IsFormula : FormulaValue → Tree → Type 0
  IsFormula (atom a) t = IsAtom a t
  IsFormula (equal a b) t = (head x y : Tree) × (t ≡ list (head ∷ x ∷ y ∷ [])) × IsEqualSign head × IsTerm a x × IsTerm b y
  IsFormula (negation f) t = (head x : Tree) × (t ≡ list (head ∷ x ∷ [])) × IsWord (codes "not") head × IsFormula f x
  IsFormula (implication f g) t = (head x y : Tree) × (t ≡ list (head ∷ x ∷ y ∷ [])) × IsWord (codes "imply") head × IsFormula f x × IsFormula g y
  IsFormula (conjunction fs) t = (head : Tree) × (ts : List Tree) × (t ≡ list (head ∷ ts)) × IsWord (codes "and") head × AreFormulas fs ts
  IsFormula (disjunction fs) t = (head : Tree) × (ts : List Tree) × (t ≡ list (head ∷ ts)) × IsWord (codes "or") head × AreFormulas fs ts
  IsFormula (existential xs f) t = (head vs x : Tree) × (t ≡ list (head ∷ vs ∷ x ∷ [])) × IsWord (codes "exists") head × IsVariableList xs vs × IsFormula f x
  IsFormula (universal xs f) t = (head vs x : Tree) × (t ≡ list (head ∷ vs ∷ x ∷ [])) × IsWord (codes "forall") head × IsVariableList xs vs × IsFormula f x

  -- each formula is spelled by the tree at its place, and there are no others
  pub AreFormulas : FormulaValues → List Tree → Type 0
  AreFormulas no_formulas [] = Unit {0}
  AreFormulas (formula f fs) (t ∷ ts) = IsFormula f t × AreFormulas fs ts
  AreFormulas no_formulas (t ∷ ts) = ⊥
  AreFormulas (formula f fs) [] = ⊥

-- A precondition or a goal: a formula, or `()`, which is the empty conjunction (Kovacs, `<emptyOr (x)>`; that they are one value is own).
abbrev pub IsCondition : FormulaValue → Tree → Type 0
IsCondition f t = IsFormula f t ⊎ ((t ≡ list []) × (f ≡ conjunction no_formulas))
