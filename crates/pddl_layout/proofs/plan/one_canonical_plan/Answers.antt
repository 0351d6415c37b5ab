use Rattle.std.proofs.Common.{ap}
use Rattle.pddl_layout.specs.PlanLayout.{plan_text}
use Rattle.pddl_layout.proofs.PlanPieces as pieces
use Rattle.pddl_layout.proofs.plan.one_canonical_plan.Goals as goal

pub returns : goal.returns
returns c = λ plan other text more p q short brief. (pieces.one_canonical_plan plan other text more p q short brief, λ same. ap plan_text same)
