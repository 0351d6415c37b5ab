use Rattle.pddl_file_layout.proofs.FormulaTreeLaws.{spells_effect}
use Rattle.pddl_file_layout.proofs.laws.effect_tree_spells.Goals as goal

pub returns : goal.returns
returns c = spells_effect
