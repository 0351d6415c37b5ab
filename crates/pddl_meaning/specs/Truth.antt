-- Truth of formulas in sets of ground atoms (Fox and Long, PDDL2.1, JAIR 20, 2003, after Pednault's ADL), and what formulas read.
use Rattle.std.specs.Prelude.{Bool, true, false, not, ◌&&◌, ◌||◌, List, bytes_eq}
use Rattle.std.specs.List.{list_any}
use Rattle.pddl_formula.specs.Formulas.{FormulaValue, FormulaValues, atom, equal, negation, implication, conjunction, disjunction, existential, universal, no_formulas, formula}
use Rattle.pddl_task.specs.Names.{Name}
use Rattle.pddl_task.specs.Faults.{same_ground}
use Rattle.pddl_task.specs.Known.{formula_atoms}
use Rattle.pddl_task.specs.Valuations.{Valuation, object_at, grounded, some_valuation, every_valuation}
use Rattle.pddl_meaning.specs.Worlds.{Atoms}

-- A formula is true under a valuation in a set of ground atoms. Quantifiers range over the fitting objects; of formulas in turn all
-- are true, or some is.
abbrev mutual
  pub truth : (List Name → List Name) → Atoms → FormulaValue → Valuation → Bool
  truth fit s (atom a) v = s (grounded v a)
  truth fit s (equal t u) v = bytes_eq (object_at v t) (object_at v u)
  truth fit s (negation f) v = not (truth fit s f v)
  truth fit s (implication f g) v = not (truth fit s f v) || truth fit s g v
  truth fit s (conjunction fs) v = all_true fit s fs v
  truth fit s (disjunction fs) v = some_true fit s fs v
  truth fit s (existential xs f) v = some_valuation fit xs (truth fit s f) v
  truth fit s (universal xs f) v = every_valuation fit xs (truth fit s f) v

  pub all_true : (List Name → List Name) → Atoms → FormulaValues → Valuation → Bool
  all_true fit s no_formulas v = true
  all_true fit s (formula f fs) v = truth fit s f v && all_true fit s fs v

  pub some_true : (List Name → List Name) → Atoms → FormulaValues → Valuation → Bool
  some_true fit s no_formulas v = false
  some_true fit s (formula f fs) v = truth fit s f v || some_true fit s fs v

-- The atoms that a formula reads: those of its expansion over all fitting objects, whatever holds (Fox and Long, GPre; that quantified
-- atoms are read under every valuation is own).
abbrev pub formula_reads : (List Name → List Name) → FormulaValue → Valuation → Atoms
formula_reads fit f v g = list_any (same_ground g) (formula_atoms fit f v)
