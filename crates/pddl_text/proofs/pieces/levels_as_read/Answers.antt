use Rattle.pddl_text.proofs.Levels as levels
use Rattle.pddl_text.proofs.pieces.levels_as_read.Goals as goal

pub returns : goal.returns
returns c = λ pieces trees items written tokens_are good has. levels.levels_as_read pieces trees items written tokens_are good has
