use Rattle.std.proofs.Common.{Some, None}
use Rattle.pddl_types.proofs.ObjectTables.{object_told}
use Rattle.pddl_types.proofs.listed.Listed.type_of.Goals as goal

pub returns-in-Some : goal.returns-in-Some
returns-in-Some g c = λ told each. object_told told c.args.name.now c.args.self.now.objects.entries each (Some c.in-Some.field-0.now) (rw (c.in-Some.is, c.of.ensures) at c.get.ensures.value)

pub returns-in-None : goal.returns-in-None
returns-in-None g c = λ told each. object_told told c.args.name.now c.args.self.now.objects.entries each None (rw (c.in-None.is, c.of.ensures) at c.get.ensures.value)
