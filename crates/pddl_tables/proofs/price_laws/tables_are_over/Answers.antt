use Rattle.pddl_tables.proofs.PricedCalls.{tables_are_over}
use Rattle.pddl_tables.proofs.price_laws.tables_are_over.Goals as goal

pub returns : goal.returns
returns c = tables_are_over
