-- What may be named, as it is held for look-ups by name.
use Rattle.std.specs.Prelude.{ℕ, List, map}
use Rattle.std.specs.Borrow.{Bor}
use Rattle.pddl_formula.specs.TypedLists.{TypedValue, typed_view}
use Rattle.pddl_formula.specs.declared.type_names.Typed.{Typed}
use Rattle.pddl_domain.specs.Declarations.{Signature}
use Rattle.pddl_types.specs.declared.signatures.Slots.{Slots}

-- a name that is lent with its parameters
abbrev pub signature_in : {A B : _} → Bor (List ℕ) × Slots A B → Signature
signature_in e = record { name = e.0.now; parameters = map typed_view e.1.parameters.now }

-- a name that is lent with the type that is listed for it
abbrev pub object_in : {A : _} → List ℕ × (Bor (Typed A) × ℕ) → TypedValue
object_in e = record { item = e.0; of = e.1.0.now.types }
