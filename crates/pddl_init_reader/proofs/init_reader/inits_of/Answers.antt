use Rattle.std.proofs.Common.{map, ap}
use Rattle.pddl_items.specs.ItemTrees.{item_trees}
use Rattle.pddl_items.specs.Inner.TreeReading.{all_of}
use Rattle.pddl_formula_reader.proofs.Fills.{filled}
use Rattle.pddl_problem.specs.Inits.{init_view}
use Rattle.pddl_init_reader.specs.Inner.InitReading.{init_at}
use Rattle.pddl_init_reader.proofs.init_reader.inits_of.Goals as goal

pub returns : goal.returns
returns g c =
    rw c.list_if_right.ensures
    (filled (map init_view) c.add_inits-all.new.inits c.add_inits-all.result (all_of (map init_at (item_trees c.args.items.now))) c.in_ok-inits.inits.items (ap (map init_view) c.in_ok-inits.ensures.items) c.add_inits-all.ensures)
