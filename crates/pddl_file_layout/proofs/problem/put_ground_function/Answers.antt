use Rattle.std.proofs.Common.{rules}
use Rattle.pddl_file_layout.proofs.Printed.{puts_on, puts_as}
use Rattle.pddl_file_layout.proofs.problem.put_ground_function.Goals as goal

pub returns-clause-printed : goal.returns-clause-printed
returns-clause-printed g c = puts_as (search rules) (puts_on c.put_both.ensures (puts_on c.put_object_names.ensures.printed c.put.ensures))
