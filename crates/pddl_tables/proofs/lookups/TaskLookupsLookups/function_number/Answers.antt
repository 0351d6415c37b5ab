use Rattle.std.proofs.Common.{◌∙◌}
use Rattle.pddl_task.specs.Settings.{symbol_of}
use Rattle.pddl_linked_task.specs.LinkedTasks.{task_of_files}
use Rattle.pddl_tables.proofs.LookedUp.{looked_up}
use Rattle.pddl_tables.proofs.lookups.TaskLookupsLookups.function_number.Goals as goal

pub returns : goal.returns
returns g c =
    let task = task_of_files c.self.inside.task.now in
    rw (← c.self.view_is) (c.unwrap_or.ensures
    ∙ looked_up symbol_of task.functions c.args.name.now c.function_number-found.result c.function_count.result c.function_number-found.ensures c.function_count.ensures)
