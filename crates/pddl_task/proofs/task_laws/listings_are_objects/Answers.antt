use Rattle.pddl_task.proofs.ObjectLists.{listings_are_objects}
use Rattle.pddl_task.proofs.task_laws.listings_are_objects.Goals as goal

pub returns : goal.returns
returns c = listings_are_objects
