use Rattle.std.proofs.Common.{◌≡◌, ◌++◌, map}
use Rattle.pddl_formula.specs.TypedLists.{typed_view, of_type}
use Rattle.pddl_formula.proofs.typed_list.add_names.Given as goal

-- the names so far, with their type, and the names that are left
abbrev pub invariant-loop-name : goal.invariant-loop-name
invariant-loop-name g l = record {
  added : map typed_view l.items.items ≡ map typed_view l.initial.items.items ++ of_type l.yielded l.types;
  left : l.yielded ++ l.name-iterator.rest.items ≡ l.fn.names.items;
}
