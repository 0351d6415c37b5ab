use Rattle.std.proofs.Common.{subst, inr}
use Rattle.std.proofs.lemmas.Result.{IfOk-weaker}
use Rattle.pddl_plan.specs.Plans.{plan_view}
use Rattle.pddl_linked_task.specs.LinkedTasks.{task_of_files}
use Rattle.pddl_plan_commands.specs.PlanChecks.{IsJudgedIn}
use Rattle.pddl_plan_commands.specs.Inner.WantedPrintings.{printing_of}
use Rattle.pddl_plan_commands.proofs.judging.judged_plan.Goals as goal

pub returns-in-Ok : goal.returns-in-Ok
returns-in-Ok g c =
    IfOk-weaker c.judged_in-answer.result _ _
    (λ answer judged. inr (c.in-Ok.ensures.verdict, subst (λ files. IsJudgedIn (printing_of c.args.wanted) (task_of_files files) (plan_view c.args.plan.now) answer.0.items answer.1) c.in-Ok.ensures.task judged)) c.judged_in-answer.ensures
