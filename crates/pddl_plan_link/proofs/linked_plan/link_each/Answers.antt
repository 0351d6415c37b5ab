use Rattle.std.proofs.Common.{◌<◌, ◌≤◌, length, refl, ◌∙◌, arith}
use Rattle.std.specs.Prelude.{Ok}
use Rattle.std.proofs.lemmas.Result.{err_from_is_err_and}
use Rattle.pddl_plan.specs.Plans.{plan_view, moment_at}
use Rattle.pddl_linked_task.specs.LinkedTasks.{task_of_files}
use Rattle.pddl_linked_plan.specs.LinkedSteps.{LinkedStepValue}
use Rattle.pddl_linked_plan.specs.StepFaults.{step_faults, most_steps}
use Rattle.pddl_plan_link.specs.StepVerdicts.{plan_fault_of}
use Rattle.pddl_plan_link.proofs.PlanSteps.{none_linked, linked_more, fault_found, all_linked, all_done, step_is, Row, rows_of, row_step, row_link, as_many_rows, row_at, linked_rows, plan_verdict, plan_fault}
use Rattle.pddl_plan_link.proofs.linked_plan.link_each.Goals as goal

pub loop-place-init : goal.loop-place-init
loop-place-init g c =
    let task = task_of_files c.args.tables.now.task.now in
    record {
      linked = none_linked task row_step (row_link task) (rows_of (plan_view c.args.plan.now)) c.args.steps.now c.requires.steps;
      changes = c.requires.changes;
    }

pub returns-in_err-action-clause-verdict : goal.returns-in_err-action-clause-verdict
returns-in_err-action-clause-verdict g c =
    let task = task_of_files c.args.tables.now.task.now in
    let plan = plan_view c.args.plan.now in
    let place = c.loop-place.place in
    let step = c.step.result in
    let row : Row = (moment_at plan place, step) in
    let low : place < length (rows_of plan) = omega (arith, as_many_rows task plan, c.len-place-end.ensures.value, c.loop-place-test.true) in
    let short : length (rows_of plan) ≤ most_steps = omega (arith, as_many_rows task plan, c.requires.short) in
    let p = err_from_is_err_and c.from_residual.result c.from_residual.ensures.1 in
    rw (p.1, p.2)
    (plan_fault task plan (plan_fault_of c.in_err-action.field-0.0)
    (fault_found task row_step (row_link task) (rows_of plan) place c.loop-place.steps row (step_faults task step)
    (plan_fault_of c.in_err-action.field-0.0) low (row_at task plan place step c.step.ensures) short refl
    c.in_err-action.ensures.verdict c.loop-place.invariant.linked))

pub loop-place-preserved : goal.loop-place-preserved
loop-place-preserved g c =
    let task = task_of_files c.args.tables.now.task.now in
    let plan = plan_view c.args.plan.now in
    let place = c.loop-place.place in
    let step = c.step.result in
    let row : Row = (moment_at plan place, step) in
    let low : place < length (rows_of plan) = omega (arith, as_many_rows task plan, c.len-place-end.ensures.value, c.loop-place-test.true) in
    let s : LinkedStepValue = record { action = c.in_ok-action.action; objects = c.deref.result.now; moment = c.moment.result } in
    record {
      linked = rw c.in_ok-push.ensures.added
          (linked_more task row_step (row_link task) (rows_of plan) place c.loop-place.steps row s low (row_at task plan place step c.step.ensures)
          c.in_ok-action.ensures.verdict
          (step_is task step step refl c.in_ok-action.action c.deref.result.now c.moment.result (moment_at plan place) c.in_ok-action.ensures.action
          (c.deref.ensures.value ∙ c.in_ok-action.ensures.objects) c.moment.ensures) c.loop-place.invariant.linked);
      changes = c.in_ok-action.ensures.changes;
    }

pub returns : goal.returns
returns g c =
    let task = task_of_files c.args.tables.now.task.now in
    let plan = plan_view c.args.plan.now in
    let past : length (rows_of plan) ≤ c.loop-place.place = omega (arith, as_many_rows task plan, c.len-place-end.ensures.value, c.loop-place-test.false) in
    let short : length (rows_of plan) ≤ most_steps = omega (arith, as_many_rows task plan, c.requires.short) in
    record {
      steps = all_done task row_step (row_link task) (rows_of plan) c.loop-place.place c.loop-place.steps past c.loop-place.invariant.linked ∙ linked_rows task plan;
      verdict = plan_verdict task plan (Ok (tt {0})) (all_linked task row_step (row_link task) (rows_of plan) c.loop-place.place c.loop-place.steps past short c.loop-place.invariant.linked);
    }
