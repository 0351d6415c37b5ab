use Rattle.std.proofs.Common.{arith}
use Rattle.pddl_file_layout.proofs.Printed.{puts_on, puts_as}
use Rattle.pddl_file_layout.proofs.Arms.{variables_cons, no_variables, none_good, cons_good}
use Rattle.pddl_file_layout.proofs.formula.put_variables.Goals as goal

pub returns-in-len1-up-clause-printed : goal.returns-in-len1-up-clause-printed
returns-in-len1-up-clause-printed g c =
    puts_as (variables_cons c.args.variables.now c.first-item.result (omega arith) c.first-item.is)
    (puts_on c.put-in-len1-up.ensures (puts_on c.put_typed.ensures.printed (puts_on c.put_typed_list.ensures.printed c.put-in-len1-up-2.ensures)))

pub returns-in-empty-clause-printed : goal.returns-in-empty-clause-printed
returns-in-empty-clause-printed g c = puts_as (no_variables c.args.variables.now c.in-empty.len_below) c.put.ensures

pub returns-in-empty-clause-good : goal.returns-in-empty-clause-good
returns-in-empty-clause-good g c = none_good c.args.variables.now c.in-empty.len_below

pub returns-in-len1-up-clause-good : goal.returns-in-len1-up-clause-good
returns-in-len1-up-clause-good g c = cons_good c.args.variables.now c.first-item.result (omega arith) c.first-item.is c.put_typed.ensures.good c.put_typed_list.ensures.good
