use Rattle.std.proofs.Common.{arith}
use Rattle.pddl_effect_reader.proofs.IncreaseTurns.{cost_tested, no_cost, more_than_cost}
use Rattle.pddl_effect_reader.proofs.increase.is_cost_list.Goals as goal

pub returns-in-len1 : goal.returns-in-len1
returns-in-len1 g c =
    cost_tested c.args.items.now c.item-item.result c.is_word_item.result c.in-len1.len_at_least c.in-len1.len_below c.item-item.is c.is_word_item.ensures

pub returns-in_default : goal.returns-in_default
returns-in_default g c = no_cost c.args.items.now (omega arith)

pub returns-in_default-2 : goal.returns-in_default-2
returns-in_default-2 g c = more_than_cost c.args.items.now (omega arith)
