use Rattle.std.proofs.Common.{◌≡◌, ◌++◌, map}
use Rattle.pddl_formula.specs.TypedLists.{of_type}
use Rattle.pddl_domain.specs.Declarations.{function_view}
use Rattle.pddl_declaration_reader.specs.Inner.Signatures.{signature_view}
use Rattle.pddl_declaration_reader.proofs.declaration_reader.add_sharing.Given as goal

-- the functions so far, with the types of their results, and those that are left
abbrev pub invariant-loop-signature : goal.invariant-loop-signature
invariant-loop-signature g l = record {
  found : map function_view l.found.items ≡ map function_view l.initial.found.items ++ of_type (map signature_view l.yielded) l.types;
  left : l.yielded ++ l.signature-iterator.rest.items ≡ l.fn.signatures.items;
}
