use Rattle.std.proofs.Common.{◌<◌, length, drop, ap, ◌∙◌, arith}
use Rattle.pddl_plan.specs.Cuts.{last_end}
use Rattle.pddl_plan.specs.Building.{Building, ended}
use Rattle.pddl_plan.proofs.BuiltPlans.{plain_held, plain_ended}
use Rattle.pddl_plan.proofs.plan_builder.PlanBuilder.end_step.Goals as goal

pub invariant_of-self-2 : goal.invariant_of-self-2
invariant_of-self-2 g c =
    let some : 0 < length (drop (last_end 0 c.self.inside.ends.items) c.self.inside.names) = omega (arith, c.requires.named, ap (λ (b : Building). length b.names) c.self.view_is) in
    plain_held c.self.inside.names c.self.inside.ends.items c.self.inside.moments.items c.self.invariant c.len-end.result c.len-end.ensures.value some c.push.new.self.items c.in_ok-push.ensures.items
    (ap (λ (b : Building). b.moments) c.self.view_is ∙ c.requires.plain)

pub returns-clause-ended : goal.returns-clause-ended
returns-clause-ended g c =
    let some : 0 < length (drop (last_end 0 c.self.inside.ends.items) c.self.inside.names) = omega (arith, c.requires.named, ap (λ (b : Building). length b.names) c.self.view_is) in
    plain_ended c.self.inside.names c.self.inside.ends.items c.self.inside.moments.items c.self.invariant c.len-end.result c.len-end.ensures.value some c.push.new.self.items c.in_ok-push.ensures.items
    ∙ ap ended c.self.view_is
