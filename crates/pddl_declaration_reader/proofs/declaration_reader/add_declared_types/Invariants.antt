use Rattle.std.proofs.Common.{◌≡◌, drop, map, false, codes}
use Rattle.pddl_items.specs.ItemTrees.{item_trees}
use Rattle.pddl_formula_reader.specs.Inner.Reading.{type_name_at, typed_from}
use Rattle.pddl_domain.specs.Declarations.{type_view}
use Rattle.pddl_declaration_reader.proofs.declaration_reader.add_declared_types.Given as goal

-- what was found, the group, and the items that are left, give what all items give
abbrev pub invariant-loop-item : goal.invariant-loop-item
invariant-loop-item g l =
    typed_from type_name_at type_name_at (codes "object") (map type_view l.found.items) l.group.items l.after_dash (item_trees (drop l.item-index l.items))
    ≡ typed_from type_name_at type_name_at (codes "object") (map type_view l.initial.found.items) l.initial.group.items false (item_trees l.items)
