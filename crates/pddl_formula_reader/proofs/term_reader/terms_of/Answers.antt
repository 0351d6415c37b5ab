use Rattle.std.proofs.Common.{map, ap}
use Rattle.pddl_items.specs.ItemTrees.{item_trees}
use Rattle.pddl_items.specs.Inner.TreeReading.{all_of}
use Rattle.pddl_formula_reader.specs.Inner.Reading.{term_at}
use Rattle.pddl_formula.specs.Terms.{term_view}
use Rattle.pddl_formula_reader.proofs.Fills.{filled}
use Rattle.pddl_formula_reader.proofs.term_reader.terms_of.Goals as goal

pub returns : goal.returns
returns g c =
    rw c.list_if_right.ensures
    (filled (map term_view) c.add_terms-all.new.terms c.add_terms-all.result (all_of (map term_at (item_trees c.args.items.now))) c.in_ok-terms.terms.items (ap (map term_view) c.in_ok-terms.ensures.items) c.add_terms-all.ensures)
