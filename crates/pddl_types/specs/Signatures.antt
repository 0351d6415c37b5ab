-- Tables of what is declared with parameters, as they are held for look-ups by name. Own.
use Rattle.std.specs.Prelude.{◌≡◌, ℕ, List, [], Option, map, find, bytes_eq, All}
use Rattle.std.specs.Borrow.{Bor}
use Rattle.pddl_formula.specs.TypedLists.{typed_view}
use Rattle.pddl_domain.specs.Declarations.{Signature}
use Rattle.pddl_task.specs.Names.{Name, repeated}
use Rattle.pddl_task.specs.Settings.{symbol_of}
use Rattle.pddl_types.specs.KnownNames.{signature_in}
use Rattle.pddl_types.specs.Told.{ToldValue, AreAt}
use Rattle.pddl_types.specs.declared.signatures.Slots.{Slots}

-- names that are lent, with their slots
abbrev pub Rows : Type 0 → Type 0 → Type 0
Rows A B = List (Bor (List ℕ) × Slots A B)

-- the types of the slots of a name are told
abbrev pub IsSlotsAt : {A B : _} → ToldValue → Slots A B → Type 0
IsSlotsAt told slots = AreAt told (map typed_view slots.parameters.now) slots.numbers.items

-- so it is of all names of a table
abbrev pub AreSlotsAt : {A B : _} → ToldValue → Rows A B → Type 0
AreSlotsAt told rows = All (λ e. IsSlotsAt told e.1) rows

-- the signature that a name has among some
abbrev pub signature_among : List Signature → Name → Option Signature
signature_among signatures n = find (λ s. bytes_eq n s.name) signatures

-- what is held of what was seen: of each name the first, and all where no name stands twice
pub record AreFirst (held seen : List Signature) : Type 0 where
  pub first : (n : Name) → signature_among held n ≡ signature_among seen n
  pub all : repeated [] (map symbol_of seen) ≡ [] → held ≡ seen

-- a table holds these signatures so, and the types of their slots are told
pub record HaveFirst {A B : Type 0} (told : ToldValue) (rows : Rows A B) (signatures : List Signature) : Type 0 where
  pub first : AreFirst (map signature_in rows) signatures
  pub slots : AreSlotsAt told rows

-- it has all of these
pub record HaveSignatures {A B : Type 0} (told : ToldValue) (rows : Rows A B) (signatures : List Signature) : Type 0 where
  pub signatures_are : map signature_in rows ≡ signatures
  pub slots : AreSlotsAt told rows
