use Rattle.std.proofs.Common.{sym, ap, ◌∙◌}
use Rattle.pddl_linked_task.specs.LinkedTasks.{task_of_files}
use Rattle.pddl_compiled_plan.specs.CompiledSteps.{form_of}
use Rattle.pddl_compiled_plan.proofs.Forms.{same_some}
use Rattle.pddl_step.proofs.actions.compile_marked.Goals as goal

pub returns-in_ok-compile_action : goal.returns-in_ok-compile_action
returns-in_ok-compile_action g c a at =
    let task = task_of_files c.args.task.now in
    c.in_ok-compile_action.ensures task c.requires.tables ∙ ap (form_of task) (same_some _ a (sym c.action.ensures ∙ at))
