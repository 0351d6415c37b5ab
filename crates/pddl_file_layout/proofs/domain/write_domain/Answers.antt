use Rattle.pddl_file_layout.proofs.Printed.{wrote, none_failed, began, one_failed}
use Rattle.pddl_file_layout.proofs.domain.write_domain.Goals as goal

pub returns-else-failed-clause-written : goal.returns-else-failed-clause-written
returns-else-failed-clause-written g c = wrote c.put_domain.ensures.printed c.if-failed.false

pub returns-else-failed-clause-none_failed : goal.returns-else-failed-clause-none_failed
returns-else-failed-clause-none_failed g c = none_failed c.put_domain.ensures.printed c.if-failed.false

pub returns-then-failed-clause-beginning : goal.returns-then-failed-clause-beginning
returns-then-failed-clause-beginning g c = began c.put_domain.ensures.printed c.if-failed.true

pub returns-then-failed-clause-write_failed : goal.returns-then-failed-clause-write_failed
returns-then-failed-clause-write_failed g c = one_failed c.put_domain.ensures.printed c.if-failed.true
