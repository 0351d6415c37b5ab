-- What formulas look like without memory.
use Rattle.std.proofs.Common.{◌≡◌, map, Vec, Box, sym, ap, ◌∙◌}
use Rattle.pddl_formula.specs.Terms.{term_view, atom_view}
use Rattle.pddl_formula.specs.Formulas.{FormulaValue, atom, equal, negation, implication, conjunction, disjunction, existential, universal, formula_step, formula_view, formulas_of}
use Rattle.pddl_formula.specs.TypedLists.{typed_view}
use Rattle.pddl_formula.specs.declared.term.Term.{Term}
use Rattle.pddl_formula.specs.declared.term.Atom.{Atom}
use Rattle.pddl_formula.specs.declared.type_names.Typed.{Typed}
use Rattle.pddl_formula.specs.declared.formula.Formula.{Formula}
use Rattle.pddl_formula.specs.declared.formula.Formula.TheOpen.{Formula-F}
use Rattle.pddl_formula.specs.declared.formula.Formula.TheVariants as cases
use Rattle.pddl_formula.specs.declared.formula.Formula.TheVariants.{Not, Imply, And, Or, Exists, Forall, rolls-Not, rolls-Imply, rolls-And, rolls-Or, rolls-Exists, rolls-Forall}
use Rattle.pddl_formula.specs.declared.formula.Formula.TheFolds.{fold-roll-Formula}

module _ {A : Type 0} where
  pub view_not : (p : Box (Formula A) A) → formula_view (Not p) ≡ negation (formula_view p.value)
  view_not p = ap formula_view (sym (rolls-Not p)) ∙ fold-roll-Formula _ FormulaValue formula_step (Formula-F.Not p)

  pub view_imply : (p q : Box (Formula A) A) → formula_view (Imply p q) ≡ implication (formula_view p.value) (formula_view q.value)
  view_imply p q = ap formula_view (sym (rolls-Imply p q)) ∙ fold-roll-Formula _ FormulaValue formula_step (Formula-F.Imply p q)

  pub view_and : (v : Vec (Formula A) A) → formula_view (And v) ≡ conjunction (formulas_of (map formula_view v.items))
  view_and v = ap formula_view (sym (rolls-And v)) ∙ fold-roll-Formula _ FormulaValue formula_step (Formula-F.And v)

  pub view_or : (v : Vec (Formula A) A) → formula_view (Or v) ≡ disjunction (formulas_of (map formula_view v.items))
  view_or v = ap formula_view (sym (rolls-Or v)) ∙ fold-roll-Formula _ FormulaValue formula_step (Formula-F.Or v)

  pub view_exists : (v : Vec (Typed A) A) (p : Box (Formula A) A) → formula_view (Exists v p) ≡ existential (map typed_view v.items) (formula_view p.value)
  view_exists v p = ap formula_view (sym (rolls-Exists v p)) ∙ fold-roll-Formula _ FormulaValue formula_step (Formula-F.Exists v p)

  pub view_forall : (v : Vec (Typed A) A) (p : Box (Formula A) A) → formula_view (Forall v p) ≡ universal (map typed_view v.items) (formula_view p.value)
  view_forall v p = ap formula_view (sym (rolls-Forall v p)) ∙ fold-roll-Formula _ FormulaValue formula_step (Formula-F.Forall v p)

  pub view_atom : (a : Atom A) → formula_view (cases.Atom a) ≡ atom (atom_view a)
  view_atom a = ap formula_view (sym (cases.rolls-Atom a)) ∙ fold-roll-Formula _ FormulaValue formula_step (Formula-F.Atom a)

  pub view_equal : (x y : Term A) → formula_view (cases.Equal x y) ≡ equal (term_view x) (term_view y)
  view_equal x y = ap formula_view (sym (cases.rolls-Equal x y)) ∙ fold-roll-Formula _ FormulaValue formula_step (Formula-F.Equal x y)
