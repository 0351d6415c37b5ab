use Rattle.pddl_text.proofs.TextFaults as texts
use Rattle.pddl_text.proofs.texts.one_text_fault.Goals as goal

pub returns : goal.returns
returns c = λ text fault other stands others some_fault other_fault. texts.one_text_fault text fault other stands others some_fault other_fault
