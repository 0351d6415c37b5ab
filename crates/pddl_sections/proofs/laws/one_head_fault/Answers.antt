use Rattle.pddl_sections.proofs.FileLaws as laws
use Rattle.pddl_sections.proofs.laws.one_head_fault.Goals as goal

pub returns : goal.returns
returns c = laws.one_head_fault
