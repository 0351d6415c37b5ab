use Rattle.std.proofs.Common.{◌≡◌, drop, map}
use Rattle.pddl_items.specs.ItemTrees.{item_trees}
use Rattle.pddl_items.specs.Inner.TreeReading.{all_of}
use Rattle.pddl_items.proofs.Fronts.{with_front}
use Rattle.pddl_formula.specs.Terms.{term_view}
use Rattle.pddl_formula_reader.specs.Inner.Reading.{term_at}
use Rattle.pddl_formula_reader.proofs.term_reader.add_terms.Given as goal

-- those so far, and those of the items that are left
abbrev pub invariant-loop-item : goal.invariant-loop-item
invariant-loop-item g l =
    with_front (map term_view l.terms.items) (all_of (map term_at (item_trees (drop l.item-index l.items))))
    ≡ with_front (map term_view l.initial.terms.items) (all_of (map term_at (item_trees l.items)))
