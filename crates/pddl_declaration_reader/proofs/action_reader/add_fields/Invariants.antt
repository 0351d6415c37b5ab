use Rattle.std.proofs.Common.{◌≡◌, length}
use Rattle.pddl_items.specs.ItemTrees.{item_trees}
use Rattle.pddl_declaration_reader.specs.Inner.Slots.{slots_view, slots_from}
use Rattle.pddl_declaration_reader.proofs.action_reader.add_fields.Given as goal

-- the fields so far, and the items that are left, give what all items give
abbrev pub invariant-loop-rest : goal.invariant-loop-rest
invariant-loop-rest g l = slots_from (slots_view l.slots) (item_trees l.rest) ≡ slots_from (slots_view l.initial.slots) (item_trees l.items)

abbrev pub decreases-loop-rest : goal.decreases-loop-rest
decreases-loop-rest g l = length l.rest
