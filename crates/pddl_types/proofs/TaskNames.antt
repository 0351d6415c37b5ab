-- Names of predicates and objects by number, as tables have them.
use Rattle.std.proofs.Common.{◌≡◌, ℕ, List, map, bytes_eq, Option, refl, sym, ap, ◌∙◌, Some, None, option_map, position, Bor, All, slice_get}
use Rattle.std.specs.Map.{keys_of}
use Rattle.std.proofs.lemmas.List.{length-map}
use Rattle.std.proofs.lemmas.List.Elements.{All-contains}
use Rattle.std.proofs.lemmas.Option.{slice_get-map}
use Rattle.std.proofs.lemmas.Simd.{map-map}
use Rattle.pddl_formula.specs.declared.type_names.Typed.{Typed}
use Rattle.pddl_formula.specs.TypedLists.{TypedValue}
use Rattle.pddl_domain.specs.declared.domain.DeclaredPredicate.{DeclaredPredicate}
use Rattle.pddl_domain.specs.Declarations.{Signature, predicate_view}
use Rattle.pddl_task.specs.Names.{Name, item_of}
use Rattle.pddl_task.specs.Settings.{symbol_of}
use Rattle.pddl_types.specs.KnownNames.{signature_in, object_in}
use Rattle.pddl_types.specs.Told.{ToldValue}
use Rattle.pddl_types.specs.Objects.{IsObjectAt}
use Rattle.pddl_types.specs.declared.signatures.Slots.{Slots}
use Rattle.pddl_task.proofs.Lists.{at_place}
use Rattle.pddl_types.proofs.Lookups.{number_lent}

-- the name of a predicate
pub symbol_at : {A : Type 0} (xs : List (DeclaredPredicate A)) (signatures : List Signature) (i : ℕ)
    → map predicate_view xs ≡ signatures → option_map (λ x. x.predicate) (slice_get xs i) ≡ slice_get (map symbol_of signatures) i
symbol_at xs signatures i same = rw (← same, map-map symbol_of predicate_view xs, slice_get-map (λ x. x.predicate) xs i) refl

-- the name of an object, as it is listed
pub item_at : {A : Type 0} (told : ToldValue) (es : List (Name × (Bor (Typed A) × ℕ))) (objects : List TypedValue) (i : ℕ) (found : Option (Name × (Bor (Typed A) × ℕ)))
    → map object_in es ≡ objects → All (IsObjectAt told) es → found ≡ slice_get es i → option_map (λ e. e.1.0.now.name) found ≡ slice_get (map item_of objects) i
item_at {A} told es objects i found same each at = rw (← same, map-map item_of object_in es, slice_get-map (λ (e : Name × (Bor (Typed A) × ℕ)). e.0) es i, ← at) (one found (sym at))
  where
    one : (f : Option (Name × (Bor (Typed A) × ℕ))) → slice_get es i ≡ f → option_map (λ e. e.1.0.now.name) f ≡ option_map (λ e. e.0) f
    one None is = refl
    one (Some e) is = ap Some (All-contains (IsObjectAt told) es e each (at_place es i e is)).0

-- ---- the number of a name

-- a name that is lent has its place among the names
place_lent : {V : Type 0} (es : List (Bor (List ℕ) × V)) (n : Name) → position (λ k. bytes_eq n k.now) (keys_of es) ≡ position (bytes_eq n) (map (λ e. e.0.now) es)
place_lent {V} es n = rw (number_lent es n, length-map es (λ (e : Bor (List ℕ) × V). e.0), length-map es (λ (e : Bor (List ℕ) × V). e.0.now)) refl

pub object_number : {A : Type 0} (es : List (Name × (Bor (Typed A) × ℕ))) (objects : List TypedValue) (n : Name) (found : Option ℕ)
    → map object_in es ≡ objects → found ≡ position (bytes_eq n) (keys_of es) → found ≡ position (bytes_eq n) (map item_of objects)
object_number es objects n found same at = rw (← same, map-map item_of object_in es) at

pub signature_number : {A B : Type 0} (es : List (Bor (List ℕ) × Slots A B)) (signatures : List Signature) (n : Name) (found : Option ℕ)
    → map signature_in es ≡ signatures → found ≡ position (λ k. bytes_eq n k.now) (keys_of es) → found ≡ position (bytes_eq n) (map symbol_of signatures)
signature_number es signatures n found same at = rw (← same, map-map symbol_of signature_in es) (at ∙ place_lent es n)
