use Rattle.std.proofs.Common.{◌≡◌, ◌++◌, map}
use Rattle.pddl_formula.specs.TypedLists.{of_type}
use Rattle.pddl_domain.specs.Declarations.{type_view}
use Rattle.pddl_domain.proofs.declared_types.add_below.Given as goal

-- the types so far, with their parent, and the names that are left
abbrev pub invariant-loop-name : goal.invariant-loop-name
invariant-loop-name g l = record {
  added : map type_view l.types.items ≡ map type_view l.initial.types.items ++ of_type l.yielded l.parent.value;
  left : l.yielded ++ l.name-iterator.rest.items ≡ l.fn.names.items;
}
