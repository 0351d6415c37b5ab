use Rattle.pddl_formula_reader.proofs.FormulaLaws.{one_formula}
use Rattle.pddl_formula_reader.proofs.laws.one_formula.Goals as goal

pub returns : goal.returns
returns c = one_formula
