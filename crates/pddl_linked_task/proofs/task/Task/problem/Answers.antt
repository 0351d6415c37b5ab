use Rattle.pddl_linked_task.proofs.task.Task.problem.Goals as goal

pub returns-clause-linked : goal.returns-clause-linked
returns-clause-linked g c = rw (← c.self.view_is) c.self.invariant.linked
