use Rattle.pddl_task.specs.Tasks.{object_names}
use Rattle.pddl_linked_task.specs.LinkedTasks.{task_of_files}
use Rattle.pddl_linked_plan.proofs.InitialAtoms.{has_number}
use Rattle.pddl_linked_plan.proofs.initial.object_number.Goals as goal

pub unwrap-requires : goal.unwrap-requires
unwrap-requires g c = has_number (object_names (task_of_files c.args.task.now)) c.args.object.now c.object_number.result c.object_number.ensures c.requires
