use Rattle.std.proofs.Common.{ap, ◌∙◌, arith}
use Rattle.std.specs.Prelude.{option_map}
use Rattle.pddl_problem.specs.Inits.{fails}
use Rattle.pddl_init_reader.specs.Inner.InitReading.{fact_at}
use Rattle.pddl_init_reader.proofs.OneItem.{one_read}
use Rattle.pddl_init_reader.proofs.init_reader.failing.Goals as goal

pub returns-in_default-2 : goal.returns-in_default-2
returns-in_default-2 g c =
    ap (option_map fails) (rw c.in_default-2.is at c.in_ok-fact.ensures ∙ one_read fact_at c.args.items.now c.item-item.result (omega arith) (omega arith) c.item-item.is)

pub returns : goal.returns
returns g c =
    ap (option_map fails) (rw c.in-Some.is at c.in_ok-fact.ensures ∙ one_read fact_at c.args.items.now c.item-item.result (omega arith) (omega arith) c.item-item.is)
