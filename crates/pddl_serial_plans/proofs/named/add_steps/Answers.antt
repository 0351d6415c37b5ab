use Rattle.std.proofs.Common.{◌≡◌, [], ◌∷◌, ◌++◌, map, sym, ap, ◌∙◌}
use Rattle.std.proofs.lemmas.List.{take_all}
use Rattle.pddl_plan.specs.Building.{Building}
use Rattle.pddl_plan.specs.Plans.{plan_of, step_of_names}
use Rattle.pddl_linked_task.specs.LinkedTasks.{task_of_files}
use Rattle.pddl_linked_plan.specs.LinkedLaws.{named_step}
use Rattle.pddl_linked_plan.specs.StepParts.{lent_step}
use Rattle.pddl_plan_steps.proofs.PlanSteps.{each_linked}
use Rattle.pddl_serial_plans.specs.NewSteps.{picked}
use Rattle.pddl_serial_plans.proofs.PickedSteps.{named_more}
use Rattle.pddl_serial_plans.proofs.AddedNames.{step_added, some_names}
use Rattle.pddl_serial_plans.proofs.named.add_steps.Goals as goal

pub loop-number-init : goal.loop-number-init
loop-number-init g c = record {
  steps = ap (λ (b : Building). map step_of_names b.steps) c.requires.none;
  plain = ap (λ (b : Building). b.moments) c.requires.none;
  none = ap (λ (b : Building). b.names) c.requires.none;
}

pub add_names-requires : goal.add_names-requires
add_names-requires g c =
    let files = c.args.task.now in
    each_linked files.domain files.problem c.domain-linked.ensures.linked c.args.steps.now c.requires.linked _ (lent_step c.step.result) (sym c.step.ensures)

pub end_step-requires-clause-named : goal.end_step-requires-clause-named
end_step-requires-clause-named g c = some_names c.loop-number.plan c.add_names.new.plan _ c.in_ok-add_names.ensures

pub end_step-requires-clause-plain : goal.end_step-requires-clause-plain
end_step-requires-clause-plain g c = ap (λ (b : Building). b.moments) c.in_ok-add_names.ensures ∙ c.loop-number.invariant.plain

pub loop-number-preserved : goal.loop-number-preserved
loop-number-preserved g c =
    let l = c.loop-number in
    let task = task_of_files c.args.task.now in
    let read = c.add_names.new.plan in
    let new = c.end_step.new.self in
    let pushed : new.steps ≡ l.plan.steps ++ read.names ∷ [] =
    ap (λ (b : Building). b.steps) c.in_ok-end_step.ensures.ended ∙ ap (λ (b : Building). b.steps ++ read.names ∷ []) c.in_ok-add_names.ensures in
    record {
      steps = named_more task c.args.steps.now c.args.order.now l.number-index c.loop-number-test.true l.plan.steps new.steps read.names pushed
          (lent_step c.step.result) (sym c.step.ensures) step_of_names (step_added l.plan read (named_step task (lent_step c.step.result)) l.invariant.none c.in_ok-add_names.ensures) l.invariant.steps;
      plain = ap (λ (b : Building). b.moments) c.in_ok-end_step.ensures.ended ∙ ap (λ (b : Building). b.moments) c.in_ok-add_names.ensures ∙ l.invariant.plain;
      none = ap (λ (b : Building). b.names) c.in_ok-end_step.ensures.ended;
    }

pub returns : goal.returns
returns g c =
    let l = c.loop-number in
    let task = task_of_files c.args.task.now in
    ap (λ ms. plan_of ms (map step_of_names l.plan.steps)) l.invariant.plain
    ∙ ap (plan_of []) (l.invariant.steps ∙ ap (λ order. map (named_step task) (picked c.args.steps.now order)) (take_all l.number-index c.args.order.now c.loop-number-test.false))
