use Rattle.std.proofs.Common.{None}
use Rattle.pddl_types.proofs.TaskNames.{item_at}
use Rattle.pddl_linked_task.proofs.task.Task.object_name.Goals as goal

pub returns-in-Some : goal.returns-in-Some
returns-in-Some g c = let listed = c.self.invariant.known.listed in rw (← c.self.view_is) (item_at _ _ _ c.args.number _ listed.objects listed.each c.in-Some.ensures.entry)

pub returns-in-None : goal.returns-in-None
returns-in-None g c = let listed = c.self.invariant.known.listed in rw (← c.self.view_is) (item_at _ _ _ c.args.number None listed.objects listed.each c.in-None.ensures.entry)
