use Rattle.pddl_sections.proofs.FileLaws as laws
use Rattle.pddl_sections.proofs.laws.one_opening.Goals as goal

pub returns : goal.returns
returns c = laws.one_opening
