use Rattle.pddl_text.proofs.Listed.{reads_back}
use Rattle.pddl_text.proofs.pieces.pieces_read_back.Goals as goal

pub returns : goal.returns
returns c = λ pieces trees written tokens_are good within short. reads_back pieces trees written tokens_are good within short
