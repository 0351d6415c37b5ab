use Rattle.std.proofs.Common.{◌∙◌}
use Rattle.pddl_task.specs.Settings.{symbol_of}
use Rattle.pddl_linked_task.specs.LinkedTasks.{task_of_files}
use Rattle.pddl_tables.proofs.LookedUp.{looked_up}
use Rattle.pddl_tables.proofs.lookups.TaskLookupsLookups.predicate_number.Goals as goal

pub returns : goal.returns
returns g c =
    let task = task_of_files c.self.inside.task.now in
    rw (← c.self.view_is) (c.unwrap_or.ensures
    ∙ looked_up symbol_of task.predicates c.args.name.now c.predicate_number-found.result c.predicate_count.result c.predicate_number-found.ensures c.predicate_count.ensures)
