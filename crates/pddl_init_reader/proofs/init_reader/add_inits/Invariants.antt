use Rattle.std.proofs.Common.{◌≡◌, drop, map}
use Rattle.pddl_items.specs.ItemTrees.{item_trees}
use Rattle.pddl_items.specs.Inner.TreeReading.{all_of}
use Rattle.pddl_items.proofs.Fronts.{with_front}
use Rattle.pddl_problem.specs.Inits.{init_view}
use Rattle.pddl_init_reader.specs.Inner.InitReading.{init_at}
use Rattle.pddl_init_reader.proofs.init_reader.add_inits.Given as goal

-- those so far, and those of the items that are left
abbrev pub invariant-loop-item : goal.invariant-loop-item
invariant-loop-item g l =
    with_front (map init_view l.inits.items) (all_of (map init_at (item_trees (drop l.item-index l.items))))
    ≡ with_front (map init_view l.initial.inits.items) (all_of (map init_at (item_trees l.items)))
