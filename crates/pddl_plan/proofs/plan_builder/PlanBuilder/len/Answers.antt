use Rattle.std.proofs.Common.{length, ap, subst, arith}
use Rattle.pddl_plan.specs.Building.{Building}
use Rattle.pddl_plan.specs.Built.{IsBuilt}
use Rattle.pddl_plan.proofs.CutLists.{length-cut}
use Rattle.pddl_plan.proofs.BuiltPlans.{is_built}
use Rattle.pddl_plan.proofs.plan_builder.PlanBuilder.len.Goals as goal

pub returns-clause-value : goal.returns-clause-value
returns-clause-value g c =
    omega (arith, c.len.ensures, c.self.inside.ends.ok, length-cut c.self.inside.names 0 c.self.inside.ends.items, ap (λ (b : Building). length b.steps) c.self.view_is)

pub returns-clause-built : goal.returns-clause-built
returns-clause-built g c =
    subst IsBuilt c.self.view_is (is_built c.self.inside.names c.self.inside.ends.items c.self.inside.moments.items c.self.invariant)
