use Rattle.pddl_types.proofs.ObjectTables.{seen_still}
use Rattle.pddl_types.proofs.listed.Listed.add.Goals as goal

pub returns-in-Ok-clause-passes : goal.returns-in-Ok-clause-passes
returns-in-Ok-clause-passes g c = rw c.in-Ok.ensures.passes c.put_all.ensures.memory

pub returns-in-Ok-clause-seen : goal.returns-in-Ok-clause-seen
returns-in-Ok-clause-seen g c = λ seen are. c.put_all.ensures.seen c.tell_all.new.self seen c.tell_all.ensures.told.once (rw (← c.deref.ensures.value) at c.in-Ok.ensures.numbers) (seen_still c.tell_all.ensures.kept are)
