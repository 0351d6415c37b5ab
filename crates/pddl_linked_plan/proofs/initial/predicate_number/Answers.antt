use Rattle.pddl_task.specs.Tasks.{predicate_names}
use Rattle.pddl_linked_task.specs.LinkedTasks.{task_of_files}
use Rattle.pddl_linked_plan.proofs.InitialAtoms.{has_number}
use Rattle.pddl_linked_plan.proofs.initial.predicate_number.Goals as goal

pub unwrap-requires : goal.unwrap-requires
unwrap-requires g c = has_number (predicate_names (task_of_files c.args.task.now)) c.args.name.now c.predicate_number.result c.predicate_number.ensures c.requires
