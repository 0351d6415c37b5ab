use Rattle.std.proofs.Common.{rules}
use Rattle.pddl_file_layout.proofs.Printed.{puts_on, puts_as}
use Rattle.pddl_file_layout.proofs.domain.put_predicate.Goals as goal

pub returns-clause-printed : goal.returns-clause-printed
returns-clause-printed g c = puts_as (search rules) (puts_on c.put_both.ensures (puts_on c.put_typed_list.ensures.printed c.put.ensures))
