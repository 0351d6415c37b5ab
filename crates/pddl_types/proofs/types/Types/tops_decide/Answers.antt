use Rattle.pddl_types.proofs.NamedSpans.{in_table, tops_fit}
use Rattle.pddl_types.proofs.types.Types.tops_decide.Goals as goal

pub returns : goal.returns
returns g c = tops_fit c.args.self.now (in_table c.self.view_is c.self.invariant)
