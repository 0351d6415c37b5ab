use Rattle.std.proofs.Common.{ap, ◌∙◌, arith}
use Rattle.pddl_plan.specs.Building.{without_names}
use Rattle.pddl_plan.proofs.NamesHeld.{start_is}
use Rattle.pddl_plan.proofs.BuiltPlans.{left_held, left_behind}
use Rattle.pddl_plan.proofs.plan_builder.PlanBuilder.give_up_step.Goals as goal

pub invariant_of-self : goal.invariant_of-self
invariant_of-self g c =
    let ends = c.self.inside.ends.items in
    let last = start_is ends c.deref.result.now c.start_of-end.result c.len.result c.start_of-end.ensures c.deref.ensures.value (omega (arith, c.len.ensures, c.self.inside.ends.ok)) in
    left_held c.self.inside.names ends c.self.inside.moments.items c.self.invariant c.start_of-end.result last c.truncate.new.self c.truncate.ensures

pub returns : goal.returns
returns g c =
    let ends = c.self.inside.ends.items in
    let last = start_is ends c.deref.result.now c.start_of-end.result c.len.result c.start_of-end.ensures c.deref.ensures.value (omega (arith, c.len.ensures, c.self.inside.ends.ok)) in
    left_behind c.self.inside.names ends c.self.inside.moments.items c.self.invariant c.start_of-end.result last c.truncate.new.self c.truncate.ensures
    ∙ ap without_names c.self.view_is
