use Rattle.std.proofs.Common.{map, ap}
use Rattle.pddl_items.specs.ItemTrees.{item_trees}
use Rattle.pddl_items.specs.Inner.TreeReading.{all_of, name_at}
use Rattle.pddl_formula_reader.proofs.Fills.{filled}
use Rattle.pddl_formula_reader.proofs.term_reader.names_of.Goals as goal

pub returns : goal.returns
returns g c =
    rw c.list_if_right.ensures
    (filled (λ xs. xs) c.add_names-all.new.names c.add_names-all.result (all_of (map name_at (item_trees c.args.items.now))) c.in_ok-names.names.items (ap (λ xs. xs) c.in_ok-names.ensures.items) c.add_names-all.ensures)
