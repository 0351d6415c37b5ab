use Rattle.std.proofs.Common.{subst, sym, ◌≡◌, ◌∙◌, IfOk}
use Rattle.pddl_plan.specs.Plans.{plan_view}
use Rattle.pddl_linked_task.specs.LinkedTasks.{task_of_files}
use Rattle.pddl_linked_plan.specs.LinkedSteps.{linked_steps}
use Rattle.pddl_plan_link.specs.StepVerdicts.{PlanVerdict}
use Rattle.pddl_plan_tables.proofs.HeldChanges.{none_held}
use Rattle.pddl_plan_tables.proofs.NamedActions.{actions_as_many}
use Rattle.pddl_plan_link.proofs.PlanSteps.{verdict_made, steps_made}
use Rattle.pddl_plan_link.proofs.linked_plan.link_in.Goals as goal

pub link_each-made-requires : goal.link_each-made-requires
link_each-made-requires g c =
    let task = task_of_files c.args.tables.now.task.now in
    record {
      tables = c.requires.tables;
      short = c.requires.short;
      changes = none_held task c.in_ok-changes.changes.items c.len.result c.in_ok-changes.ensures
          (c.len.ensures.len ∙ actions_as_many task c.args.tables.now.actions.entries c.requires.tables.actions);
      steps = c.new-steps.ensures;
    }

pub returns : goal.returns
returns g c =
    let task = task_of_files c.args.tables.now.task.now in
    let plan = plan_view c.args.plan.now in
    let steps = linked_steps task plan in
    record {
      steps = subst (λ r. IfOk r (λ y. y ≡ steps)) (sym c.and.ensures) (steps_made c.link_each-made.result c.link_each-made.new.steps steps c.link_each-made.ensures.steps);
      verdict = subst (λ r. PlanVerdict task plan r) (sym c.and.ensures) (verdict_made task plan c.link_each-made.result c.link_each-made.new.steps c.link_each-made.ensures.verdict);
    }
