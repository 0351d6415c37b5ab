use Rattle.std.proofs.Common.{arith}
use Rattle.pddl_items.specs.Inner.TreeReading.{name_at}
use Rattle.pddl_init_reader.proofs.OneItem.{one_read}
use Rattle.pddl_problem_reader.proofs.section_reader.domain_of.Goals as goal

pub returns-in-len1 : goal.returns-in-len1
returns-in-len1 g c =
    rw (← one_read name_at c.args.items.now c.item-item.result (omega arith) (omega arith) c.item-item.is) c.name_of.ensures
