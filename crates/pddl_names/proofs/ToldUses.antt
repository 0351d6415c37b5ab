-- What is told of the types of terms and of slots, and of what is bound.
use Rattle.std.proofs.Common.{◌≡◌, ℕ, List, [], ◌∷◌, map, length, drop, ◌≤◌, Some, None, refl, arith, option_map, find, slice_get, Bor, All}
use Rattle.std.specs.Slice.{IsItemAt}
use Rattle.std.proofs.lemmas.List.Elements.{All-weaker, All-drop, All-cons, All-head}
use Rattle.std.proofs.lemmas.Option.{slice_get_read}
use Rattle.std.proofs.lemmas.Slice.Zip.{AllZip-left, AllZip-long}
use Rattle.pddl_formula.specs.TypedLists.{TypedValue, typed_view}
use Rattle.pddl_task.specs.Names.{Name, is_named}
use Rattle.pddl_task.proofs.Lists.{some_at}
use Rattle.pddl_names.specs.Scopes.{bound_in, entered}
use Rattle.pddl_types.specs.declared.known.Known.{Known}
use Rattle.pddl_types.specs.Told.{ToldValue, IsAt, AreAt, AreTold, AreKept}
use Rattle.pddl_types.specs.Objects.{IsAtOf}
use Rattle.pddl_types.specs.Signatures.{IsSlotsAt}
use Rattle.pddl_types.specs.declared.signatures.Slots.{Slots}
use Rattle.pddl_types.proofs.ToldTypes.{still_at, slots_still}
use Rattle.pddl_types.proofs.ObjectTables.{objects_still}
use Rattle.pddl_names.specs.Uses.{AreAllTold}

-- ---- variables

-- the type of the innermost of a name is told at its number
pub variable_told : (told : ToldValue) (n : Name) (scope : List (TypedValue × ℕ)) → All (λ e. IsAt told e.0.of e.1) scope
    → IsAtOf told (find (is_named n) (bound_in scope)) (option_map (λ (e : TypedValue × ℕ). e.1) (find (λ (e : TypedValue × ℕ). is_named n e.0) scope))
variable_told told n [] all = tt
variable_told told n (e ∷ scope) all =
    grind (arith, All-head (λ (d : TypedValue × ℕ). IsAt told d.0.of d.1) e scope all, variable_told told n scope (All-drop (λ (d : TypedValue × ℕ). IsAt told d.0.of d.1) 1 (e ∷ scope) all))

told_entered : (told : ToldValue) (xs : List TypedValue) (numbers : List ℕ) (scope : List (TypedValue × ℕ)) → AreAt told xs numbers → All (λ e. IsAt told e.0.of e.1) scope
    → All (λ e. IsAt told e.0.of e.1) (entered xs numbers scope)
told_entered told [] numbers scope are all = all
told_entered told (x ∷ xs) [] scope are all = all
told_entered told (x ∷ xs) (n ∷ numbers) scope are all = told_entered told xs numbers ((x, n) ∷ scope) are.1 (All-cons (λ e. IsAt told e.0.of e.1) (x, n) scope are.0 all)

module _ {A B : Type 0} {k : Known A B} {told : ToldValue} {scope : List (TypedValue × ℕ)} where
  -- all is told still while more is told
  pub told_still : {new : ToldValue} → AreTold k.types new → AreKept told new → AreAllTold k told scope → AreAllTold k new scope
  told_still {new} types kept are = record {
    types = types;
    predicates = slots_still told new k.predicates.entries kept are.predicates;
    functions = slots_still told new k.functions.entries kept are.functions;
    objects = objects_still told new k.listed.objects.entries kept are.objects;
    variables = All-weaker (λ e. IsAt told e.0.of e.1) (λ e. IsAt new e.0.of e.1) (λ e. still_at told new e.0.of e.1 kept) scope are.variables;
  }

  -- where the variables in scope are others
  told_with : (now : List (TypedValue × ℕ)) → All (λ e. IsAt told e.0.of e.1) now → AreAllTold k told scope → AreAllTold k told now
  told_with now all are = record { types = are.types; predicates = are.predicates; functions = are.functions; objects = are.objects; variables = all }

  -- as where those of a list are entered, or some are gone
  pub told_inside : (xs : List TypedValue) (numbers : List ℕ) → AreAt told xs numbers → AreAllTold k told scope → AreAllTold k told (entered xs numbers scope)
  told_inside xs numbers at are = told_with (entered xs numbers scope) (told_entered told xs numbers scope at are.variables) are

  pub told_outside : (many : ℕ) (now : List (TypedValue × ℕ)) → now ≡ drop many scope → AreAllTold k told scope → AreAllTold k told now
  told_outside many now is are = told_with now (rw is (All-drop (λ e. IsAt told e.0.of e.1) many scope are.variables)) are

-- ---- slots

module _ {A B : Type 0} (told : ToldValue) (slots : Slots A B) (are : IsSlotsAt told slots) (i : ℕ) where
  many : length slots.numbers.items ≡ length (map typed_view slots.parameters.now)
  many = AllZip-long _ (map typed_view slots.parameters.now) slots.numbers.items are

  -- the slot of a number that is read, and its type
  pub slot_there : (n : Bor ℕ) → IsItemAt slots.numbers.items i (Some n) → (x : TypedValue) × (slice_get (map typed_view slots.parameters.now) i ≡ Some x) × IsAt told x.of n.now
  slot_there n item =
      let number = slice_get_read slots.numbers.items (length slots.numbers.items) i n.now refl item.3.0 item.1 in
      let slot = some_at (map typed_view slots.parameters.now) i (omega (arith, item.3.0, many)) in
      (slot.0, slot.1, rw (slot.1, number) at (AllZip-left (λ (x : TypedValue). IsAt told x.of) (map typed_view slots.parameters.now) slots.numbers.items are i))

  -- where none is read, there is none
  pub no_slot : IsItemAt slots.numbers.items i None → length (map typed_view slots.parameters.now) ≤ i
  no_slot item = omega (arith, item.3, many)
