use Rattle.std.proofs.Common.{length, ap, arith}
use Rattle.pddl_plan.proofs.CutLists.{length-cut, as_many}
use Rattle.pddl_plan.proofs.name_list.NameList.len.Goals as goal

pub returns-clause-value : goal.returns-clause-value
returns-clause-value g c =
    omega (arith, c.len.ensures, c.self.inside.ends.ok, length-cut c.self.inside.text.items 0 c.self.inside.ends.items, ap length c.self.view_is)

pub returns-clause-short : goal.returns-clause-short
returns-clause-short g c =
    omega (arith, c.len.ensures, c.self.inside.ends.ok, as_many 0 c.self.inside.ends.items c.self.invariant.rises, c.self.invariant.short)
