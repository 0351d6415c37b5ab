use Rattle.std.proofs.Common.{length, ap, arith}
use Rattle.std.proofs.lemmas.List.{length-drop}
use Rattle.pddl_plan.specs.Cuts.{last_end}
use Rattle.pddl_plan.specs.Building.{Building}
use Rattle.pddl_plan.proofs.NamesHeld.{start_is}
use Rattle.pddl_plan.proofs.BuiltPlans.{names_left}
use Rattle.pddl_plan.proofs.plan_builder.PlanBuilder.has_names.Goals as goal

pub returns : goal.returns
returns g c =
    let ends = c.self.inside.ends.items in
    let last = start_is ends c.deref.result.now c.start_of.result c.len-2.result c.start_of.ensures c.deref.ensures.value (omega (arith, c.len-2.ensures, c.self.inside.ends.ok)) in
    names_left c.start_of.result c.len.result (length c.args.self.now.names)
    (omega (arith, last, c.len.ensures.value, length-drop (last_end 0 ends) c.self.inside.names, ap (λ (b : Building). length b.names) c.self.view_is))
