use Rattle.pddl_text.proofs.TextItems as texts
use Rattle.pddl_text.proofs.texts.one_reading.Goals as goal

pub returns : goal.returns
returns c = λ text trees others p q. texts.one_reading text trees others p q
