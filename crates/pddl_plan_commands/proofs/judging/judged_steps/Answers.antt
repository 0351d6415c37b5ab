use Rattle.std.proofs.lemmas.Result.{IfOk-weaker}
use Rattle.pddl_linked_task.specs.LinkedTasks.{task_of_files}
use Rattle.pddl_plan_commands.specs.PlanChecks.{AreStepsJudged}
use Rattle.pddl_plan_commands.specs.Inner.WantedPrintings.{printing_of}
use Rattle.pddl_plan_commands.proofs.Judged.{shown_in_range, verdict_of, shown_judged}
use Rattle.pddl_plan_commands.proofs.judging.judged_steps.Goals as goal

pub shown-answer-requires-clause-accepted : goal.shown-answer-requires-clause-accepted
shown-answer-requires-clause-accepted g c =
    let task = c.args.task.now in
    let verdict = c.in_ok-verdict in
    verdict_of task.domain task.problem c.files_are_linked.ensures c.args.steps.now c.requires verdict.verdict _ verdict.ensures.happenings verdict.ensures.accepted

pub shown-answer-requires-clause-in_range : goal.shown-answer-requires-clause-in_range
shown-answer-requires-clause-in_range g c =
    let task = c.args.task.now in
    let verdict = c.in_ok-verdict in
    shown_in_range task.domain task.problem c.files_are_linked.ensures c.args.steps.now c.requires verdict.verdict verdict.ensures.interference

pub returns : goal.returns
returns g c =
    let task = c.args.task.now in
    let steps = c.args.steps.now in
    let verdict = c.in_ok-verdict in
    let said = verdict.ensures in
    IfOk-weaker c.shown-answer.result _ (λ answer. AreStepsJudged (printing_of c.args.wanted) (task_of_files task) steps answer.0.items answer.1)
    (λ answer shown. shown_judged task.domain task.problem c.files_are_linked.ensures steps c.requires (printing_of c.args.wanted) verdict.verdict _ said.happenings said.accepted said.converges
    said.precondition said.interference said.passes said.goal said.refused answer.0.items answer.1 shown)
    c.shown-answer.ensures
