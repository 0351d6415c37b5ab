use Rattle.std.proofs.Common.{◌≡◌, take}
use Rattle.pddl_plan_steps.specs.AcceptedPlans.{moments_in}
use Rattle.pddl_valid.proofs.moments.moments_in.Given as goal

-- the moments so far
abbrev pub invariant-loop-k : goal.invariant-loop-k
invariant-loop-k g l = l.moments.items ≡ take l.k (moments_in l.steps)
