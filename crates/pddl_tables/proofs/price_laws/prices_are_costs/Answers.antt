use Rattle.pddl_tables.proofs.PricedCalls.{price_is_cost}
use Rattle.pddl_tables.proofs.price_laws.prices_are_costs.Goals as goal

pub returns : goal.returns
returns c = price_is_cost
