use Rattle.pddl_file_layout.proofs.Printed.{puts_on}
use Rattle.pddl_file_layout.proofs.printing.put_both.Goals as goal

pub returns : goal.returns
returns g c = puts_on c.put.ensures c.put-2.ensures
