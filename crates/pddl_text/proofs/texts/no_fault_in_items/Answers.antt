use Rattle.pddl_text.proofs.TextFaults as texts
use Rattle.pddl_text.proofs.texts.no_fault_in_items.Goals as goal

pub returns : goal.returns
returns c = λ text fault items stands has. texts.no_fault_in_items text fault items stands has
