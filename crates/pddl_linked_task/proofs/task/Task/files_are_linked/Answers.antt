use Rattle.pddl_linked_task.proofs.task.Task.files_are_linked.Goals as goal

pub returns : goal.returns
returns g c = rw (← c.self.view_is) c.self.invariant.linked
