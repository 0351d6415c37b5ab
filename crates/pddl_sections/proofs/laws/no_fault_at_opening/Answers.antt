use Rattle.pddl_sections.proofs.FileLaws as laws
use Rattle.pddl_sections.proofs.laws.no_fault_at_opening.Goals as goal

pub returns : goal.returns
returns c = laws.no_opened_has_fault
