use Rattle.std.proofs.Common.{◌≡◌, drop, map}
use Rattle.pddl_items.specs.ItemTrees.{item_trees}
use Rattle.pddl_items.specs.Inner.TreeReading.{all_of}
use Rattle.pddl_items.proofs.Fronts.{with_front}
use Rattle.pddl_file.specs.Inner.WordReading.{flag_at}
use Rattle.pddl_file.proofs.flag.flags_of.Given as goal

-- those so far, and those of the items that are left
abbrev pub invariant-loop-item : goal.invariant-loop-item
invariant-loop-item g l = with_front l.flags.items (all_of (map flag_at (item_trees (drop l.item-index l.items)))) ≡ all_of (map flag_at (item_trees l.items))
