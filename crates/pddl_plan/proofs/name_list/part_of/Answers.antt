use Rattle.std.proofs.Common.{arith}
use Rattle.pddl_plan.proofs.CutLists.{part_rises, part_ends}
use Rattle.pddl_plan.proofs.name_list.part_of.Goals as goal

pub returns-clause-rises : goal.returns-clause-rises
returns-clause-rises c = omega (arith, c.start_of.ensures, part_rises 0 c.args.ends.now c.args.number c.requires.in_range c.requires.rises)

pub returns-clause-within : goal.returns-clause-within
returns-clause-within c = omega (arith, part_ends 0 c.args.ends.now c.args.number c.requires.in_range c.requires.rises)
