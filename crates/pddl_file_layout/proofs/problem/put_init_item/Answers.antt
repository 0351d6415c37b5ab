use Rattle.std.proofs.Common.{sym, ap}
use Rattle.pddl_problem.specs.declared.problem.InitItem.{InitItem}
use Rattle.pddl_problem.specs.Inits.{init_view}
use Rattle.pddl_file_layout.specs.Inner.Texts.{init_text}
use Rattle.pddl_file_layout.proofs.Printed.{puts_on, puts_as}
use Rattle.pddl_file_layout.proofs.problem.put_init_item.Goals as goal

pub returns-in-Fails-clause-printed : goal.returns-in-Fails-clause-printed
returns-in-Fails-clause-printed g c =
    puts_as (ap (λ (i : InitItem _). init_text (init_view i)) (sym c.in-Fails.is)) (puts_on c.put.ensures (puts_on c.put_fact-in-Fails.ensures.printed c.put-in-Fails.ensures))

pub returns-in-Value-clause-printed : goal.returns-in-Value-clause-printed
returns-in-Value-clause-printed g c =
    puts_as (ap (λ (i : InitItem _). init_text (init_view i)) (sym c.in-Value.is))
    (puts_on c.put-in-Value.ensures (puts_on c.put_ground_function.ensures.printed (puts_on c.put-in-Value-2.ensures (puts_on c.put_number.ensures.printed c.put-in-Value-3.ensures))))
