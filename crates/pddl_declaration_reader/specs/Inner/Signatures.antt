-- A signature that waits for its result's type. No public contract names it.
use Rattle.std.specs.Prelude.{map}
use Rattle.pddl_formula.specs.TypedLists.{typed_view}
use Rattle.pddl_declaration_reader.specs.declared.declaration_reader.Signature.{Signature}
use Rattle.pddl_domain.specs.Declarations.{Signature as SignatureValue}

abbrev pub signature_view : {A : _} → Signature A → SignatureValue
signature_view s = record { name = s.name; parameters = map typed_view s.parameters.items }
