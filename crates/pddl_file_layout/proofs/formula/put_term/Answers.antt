use Rattle.std.proofs.Common.{rules}
use Rattle.pddl_file_layout.proofs.Printed.{puts_on, puts_as}
use Rattle.pddl_file_layout.proofs.formula.put_term.Goals as goal

pub returns-in-Variable-clause-printed : goal.returns-in-Variable-clause-printed
returns-in-Variable-clause-printed g c = puts_as (search rules) (puts_on c.put-in-Variable.ensures c.put-in-Variable-2.ensures)
