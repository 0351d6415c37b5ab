use Rattle.std.proofs.Common.{◌≡◌, drop, map}
use Rattle.pddl_items.specs.ItemTrees.{item_trees}
use Rattle.pddl_items.specs.Inner.TreeReading.{all_of, name_at}
use Rattle.pddl_items.proofs.Fronts.{with_front}
use Rattle.pddl_formula_reader.proofs.term_reader.add_names.Given as goal

-- those so far, and those of the items that are left
abbrev pub invariant-loop-item : goal.invariant-loop-item
invariant-loop-item g l =
    with_front l.names.items (all_of (map name_at (item_trees (drop l.item-index l.items)))) ≡ with_front l.initial.names.items (all_of (map name_at (item_trees l.items)))
