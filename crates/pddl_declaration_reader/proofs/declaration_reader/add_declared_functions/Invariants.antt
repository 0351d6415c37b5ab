use Rattle.std.proofs.Common.{◌≡◌, drop, map, false}
use Rattle.pddl_items.specs.ItemTrees.{item_trees}
use Rattle.pddl_formula_reader.specs.Inner.Reading.{type_at, typed_from}
use Rattle.pddl_domain.specs.Declarations.{number, function_view}
use Rattle.pddl_declaration_reader.specs.Inner.Signatures.{signature_view}
use Rattle.pddl_declaration_reader.specs.Inner.DeclarationReading.{function_signature_at}
use Rattle.pddl_declaration_reader.proofs.declaration_reader.add_declared_functions.Given as goal

-- what was found, the group, and the items that are left, give what all items give
abbrev pub invariant-loop-item : goal.invariant-loop-item
invariant-loop-item g l =
    typed_from function_signature_at type_at number (map function_view l.found.items) (map signature_view l.group.items) l.after_dash (item_trees (drop l.item-index l.items))
    ≡ typed_from function_signature_at type_at number (map function_view l.initial.found.items) (map signature_view l.initial.group.items) false (item_trees l.items)
