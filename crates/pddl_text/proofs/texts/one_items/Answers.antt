use Rattle.pddl_text.proofs.TextItems as texts
use Rattle.pddl_text.proofs.texts.one_items.Goals as goal

pub returns : goal.returns
returns c = λ text items others p q. texts.one_items text items others p q
