use Rattle.std.proofs.Common.{◌<◌, length, refl, sym, ap, ◌∙◌, arith}
use Rattle.std.specs.Prelude.{Some, slice_get, option_map}
use Rattle.std.proofs.lemmas.Option.{slice_get-map}
use Rattle.pddl_plan.specs.Building.{Building}
use Rattle.pddl_plan.specs.Plans.{step_of_names}
use Rattle.pddl_plan.proofs.CutLists.{length-cut, part_is}
use Rattle.pddl_plan.proofs.plan_builder.PlanBuilder.step.Goals as goal

pub part_of-part-requires-clause-in_range : goal.part_of-part-requires-clause-in_range
part_of-part-requires-clause-in_range g c =
    omega (arith, c.requires, length-cut c.self.inside.names 0 c.self.inside.ends.items, ap (λ (b : Building). length b.steps) c.self.view_is, ap length c.deref.ensures.value)

pub returns : goal.returns
returns g c =
    let names = c.self.inside.names in
    let ends = c.self.inside.ends.items in
    let number = c.args.number in
    let low : number < length ends = omega (arith, c.requires, length-cut names 0 ends, ap (λ (b : Building). length b.steps) c.self.view_is) in
    let part = part_is names names ends c.deref.result.now number c.part_of-part.result.start c.part_of-part.result.end low c.part_of-part.ensures.start c.part_of-part.ensures.end c.deref.ensures.value refl in
    ap Some c.new.ensures
    ∙ sym (slice_get-map step_of_names c.args.self.now.steps number ∙ ap (λ (b : Building). option_map step_of_names (slice_get b.steps number)) (sym c.self.view_is) ∙ ap (option_map step_of_names) part)
