use Rattle.std.proofs.Common.{◌∙◌}
use Rattle.pddl_task.specs.Names.{item_of}
use Rattle.pddl_linked_task.specs.LinkedTasks.{task_of_files}
use Rattle.pddl_tables.proofs.LookedUp.{looked_up}
use Rattle.pddl_tables.proofs.lookups.TaskLookupsLookups.object_number.Goals as goal

pub returns : goal.returns
returns g c =
    let task = task_of_files c.self.inside.task.now in
    rw (← c.self.view_is) (c.unwrap_or.ensures
    ∙ looked_up item_of task.objects c.args.name.now c.object_number-found.result c.object_count.result c.object_number-found.ensures c.object_count.ensures)
