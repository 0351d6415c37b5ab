use Rattle.std.proofs.Common.{refl, arith}
use Rattle.pddl_plan_link.proofs.linked_plan.link_plan.Goals as goal

pub returns-then-len-gt-MOST_STEPS-clause-verdict : goal.returns-then-len-gt-MOST_STEPS-clause-verdict
returns-then-len-gt-MOST_STEPS-clause-verdict g c = (refl, omega (arith, c.len.ensures.value, c.if-len-gt-MOST_STEPS.true))

pub returns : goal.returns
returns g c = rw (← c.in_ok-tables.ensures.task) c.link_in-linked.ensures
