use Rattle.pddl_text.proofs.Listed.{one_space}
use Rattle.pddl_text.proofs.pieces.tree_reads_back.Goals as goal

pub returns : goal.returns
returns c = λ t good within short. one_space t good within short
