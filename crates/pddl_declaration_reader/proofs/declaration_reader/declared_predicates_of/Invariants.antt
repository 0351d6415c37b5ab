use Rattle.std.proofs.Common.{◌≡◌, drop, map}
use Rattle.pddl_items.specs.ItemTrees.{item_trees}
use Rattle.pddl_items.specs.Inner.TreeReading.{all_of}
use Rattle.pddl_items.proofs.Fronts.{with_front}
use Rattle.pddl_domain.specs.Declarations.{predicate_view}
use Rattle.pddl_declaration_reader.specs.Inner.DeclarationReading.{predicate_signature_at}
use Rattle.pddl_declaration_reader.proofs.declaration_reader.declared_predicates_of.Given as goal

-- those so far, and those of the items that are left
abbrev pub invariant-loop-item : goal.invariant-loop-item
invariant-loop-item g l =
    with_front (map predicate_view l.predicates.items) (all_of (map predicate_signature_at (item_trees (drop l.item-index l.items))))
    ≡ all_of (map predicate_signature_at (item_trees l.items))
