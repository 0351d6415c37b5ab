use Rattle.std.proofs.Common.{length, ap, arith}
use Rattle.pddl_plan.specs.Building.{Building}
use Rattle.pddl_plan.proofs.CutLists.{length-cut}
use Rattle.pddl_plan.proofs.BuiltPlans.{same_test}
use Rattle.pddl_plan.proofs.plan_builder.PlanBuilder.is_timed.Goals as goal

pub returns : goal.returns
returns g c =
    let moments = ap (λ (b : Building). length b.moments) c.self.view_is in
    let steps = ap (λ (b : Building). length b.steps) c.self.view_is in
    same_test c.len.result c.len-2.result (length c.args.self.now.moments) (length c.args.self.now.steps) (omega (arith, c.len.ensures, c.self.inside.moments.ok, moments))
    (omega (arith, c.len-2.ensures, c.self.inside.ends.ok, length-cut c.self.inside.names 0 c.self.inside.ends.items, steps))
