use Rattle.pddl_linked_task.proofs.task.Task.fitting.Goals as goal

pub returns : goal.returns
returns g c = rw (← c.self.view_is) (rw (c.self.invariant.known.typed, c.self.invariant.known.listed.objects) at c.objects.ensures)
