use Rattle.std.proofs.Common.{◌≡◌, drop, map, false}
use Rattle.pddl_items.specs.ItemTrees.{item_trees}
use Rattle.pddl_formula.specs.TypedLists.{object, typed_view}
use Rattle.pddl_formula_reader.specs.Inner.Reading.{type_at, typed_from}
use Rattle.pddl_formula_reader.specs.Inner.Sorts.{item_at}
use Rattle.pddl_formula_reader.proofs.typed_reader.add_typed_list.Given as goal

-- what was found, the group, and the items that are left, give what all items give
abbrev pub invariant-loop-item : goal.invariant-loop-item
invariant-loop-item g l =
    typed_from (item_at l.sort) type_at object (map typed_view l.found.items) l.group.items l.after_dash (item_trees (drop l.item-index l.items))
    ≡ typed_from (item_at l.sort) type_at object (map typed_view l.initial.found.items) l.initial.group.items false (item_trees l.items)
