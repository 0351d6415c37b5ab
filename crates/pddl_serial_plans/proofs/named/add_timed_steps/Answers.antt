use Rattle.std.proofs.Common.{length, map, sym, ap, ap₂, ◌∙◌, arith}
use Rattle.std.proofs.lemmas.List.{take_all}
use Rattle.pddl_plan.specs.Building.{Building}
use Rattle.pddl_plan.specs.Plans.{TimedValue, step_of_names, timed_built}
use Rattle.pddl_step_reader.proofs.BuiltSteps.{moment_pushed, moments_pushed}
use Rattle.pddl_linked_task.specs.LinkedTasks.{task_of_files}
use Rattle.pddl_linked_plan.specs.LinkedLaws.{named_step}
use Rattle.pddl_linked_plan.specs.StepParts.{lent_step}
use Rattle.pddl_plan_steps.proofs.PlanSteps.{each_linked}
use Rattle.pddl_serial_plans.specs.NewSteps.{picked, at_moments, timed_step}
use Rattle.pddl_serial_plans.proofs.PickedSteps.{timed_more}
use Rattle.pddl_serial_plans.proofs.AddedNames.{step_added, some_names, timed_is}
use Rattle.pddl_serial_plans.proofs.named.add_timed_steps.Goals as goal

pub loop-i-init : goal.loop-i-init
loop-i-init g c = record {
  steps = ap (λ (b : Building). map (λ (s : TimedValue). s) (timed_built b)) c.requires.none;
  timed = ap (λ (b : Building). length b.moments) c.requires.none ∙ sym (ap (λ (b : Building). length b.steps) c.requires.none);
  none = ap (λ (b : Building). b.names) c.requires.none;
}

pub add_names-requires : goal.add_names-requires
add_names-requires g c =
    let files = c.args.task.now in
    each_linked files.domain files.problem c.domain-linked.ensures.linked c.args.steps.now c.requires.linked _ (lent_step c.step.result) (sym c.step.ensures)

pub end_step_at-requires-clause-named : goal.end_step_at-requires-clause-named
end_step_at-requires-clause-named g c = some_names c.loop-i.plan c.add_names.new.plan _ c.in_ok-add_names.ensures

pub end_step_at-requires-clause-timed : goal.end_step_at-requires-clause-timed
end_step_at-requires-clause-timed g c =
    omega (arith, c.loop-i.invariant.timed, ap (λ (b : Building). length b.moments) c.in_ok-add_names.ensures, ap (λ (b : Building). length b.steps) c.in_ok-add_names.ensures)

pub loop-i-preserved : goal.loop-i-preserved
loop-i-preserved g c =
    let l = c.loop-i in
    let task = task_of_files c.args.task.now in
    let read = c.add_names.new.plan in
    let new = c.end_step_at.new.self in
    let moments = ap (λ (b : Building). b.moments) c.in_ok-add_names.ensures in
    let steps = ap (λ (b : Building). b.steps) c.in_ok-add_names.ensures in
    let x : TimedValue = record { moment = c.whole.result; step = step_of_names read.names } in
    let own = step_added l.plan read (named_step task (lent_step c.step.result)) l.invariant.none c.in_ok-add_names.ensures in
    record {
      steps = timed_more task c.args.steps.now c.args.order.now l.i c.loop-i-test.true (timed_built l.plan) (timed_built new) x
          (moment_pushed l.plan read new c.whole.result l.invariant.timed moments steps c.in_ok-end_step_at.ensures.ended)
          (lent_step c.step.result) (sym c.step.ensures) (λ (s : TimedValue). s) c.args.moments.now c.requires.as_many
          (ap₂ (λ m s. record { moment = m; step = s }) c.whole.ensures own) l.invariant.steps;
      timed = moments_pushed l.plan read new c.whole.result l.invariant.timed moments steps c.in_ok-end_step_at.ensures.ended;
      none = ap (λ (b : Building). b.names) c.in_ok-end_step_at.ensures.ended;
    }

pub returns : goal.returns
returns g c =
    let l = c.loop-i in
    let task = task_of_files c.args.task.now in
    timed_is task l.plan (at_moments (picked c.args.steps.now c.args.order.now) c.args.moments.now) l.invariant.timed
    (l.invariant.steps ∙ ap₂ (λ o m. map (timed_step task) (at_moments (picked c.args.steps.now o) m)) (take_all l.i c.args.order.now c.loop-i-test.false)
    (take_all l.i c.args.moments.now (omega (arith, c.requires.as_many, c.loop-i-test.false))))
