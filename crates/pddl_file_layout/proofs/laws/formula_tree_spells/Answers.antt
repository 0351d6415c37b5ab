use Rattle.pddl_file_layout.proofs.FormulaTreeLaws.{spells_formula}
use Rattle.pddl_file_layout.proofs.laws.formula_tree_spells.Goals as goal

pub returns : goal.returns
returns c = spells_formula
