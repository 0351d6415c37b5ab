use Rattle.pddl_layout.proofs.PlanPieces as pieces
use Rattle.pddl_layout.proofs.plan.plan_reads_back.Goals as goal

pub returns : goal.returns
returns c = pieces.plan_reads_back
