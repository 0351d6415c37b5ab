use Rattle.pddl_file_layout.proofs.Printed.{puts_on}
use Rattle.pddl_file_layout.proofs.formula.put_quantifier.Goals as goal

pub returns-clause-printed : goal.returns-clause-printed
returns-clause-printed g c = puts_on c.put.ensures (puts_on c.put_variables.ensures.printed c.put-2.ensures)
