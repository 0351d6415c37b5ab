-- Names with their types, one after another, beside a table of each at its first place, with the number of its type.
use Rattle.std.proofs.Common.{MatchOption, ◌≡◌, ℕ, ◌≤◌, ◌==◌, Bool, true, false, not, cond, List, [], ◌∷◌, ◌++◌, map, filter, length, Option, Some, None, refl, ap, sym, ◌∙◌, bytes_eq, position, arith, Contains, option_map, find, is_some, slice_get, Bor, All}
use Rattle.std.specs.Cmp.Lexicographic.{nat_list_eq_equiv}
use Rattle.std.specs.List.{position_or_len}
use Rattle.std.specs.Map.{keys_of, lookup, values_of}
use Rattle.std.specs.Option.{option_map_or}
use Rattle.std.proofs.lemmas.Bool.Decides.{nat_tests}
use Rattle.std.proofs.lemmas.List.{map_push}
use Rattle.std.proofs.lemmas.List.Elements.{All-head, All-tail, All-push, All-weaker, filter-append}
use Rattle.std.proofs.lemmas.Option.{slice_get-map}
use Rattle.indexmap.proofs.MapLemmas.{Found-position, Missing-position, or_len-absent}
use Rattle.pddl_forest.specs.declared.spans.Span.{Span}
use Rattle.pddl_formula.specs.TypedLists.{TypedValue, typed_view}
use Rattle.pddl_formula.specs.declared.type_names.Typed.{Typed}
use Rattle.pddl_task.specs.Names.{Name, same_names, is_in, item_of, is_named, firsts}
use Rattle.pddl_task.proofs.Lists.{append-none, bytes_same, some_at, has_first, has_later}
use Rattle.pddl_faults.proofs.PutValues.{is_there}
use Rattle.pddl_types.specs.KnownNames.{object_in}
use Rattle.pddl_types.specs.Told.{ToldValue, tops_at, first_at, IsAt, AreDistinct, AreTold, AreKept}
use Rattle.pddl_types.specs.Objects.{IsAtOf, IsObjectAt, AreSeen, is_off}
use Rattle.pddl_types.specs.TypeSpans.{TypesValue, span_of, IsTold, AreNumbered}
use Rattle.pddl_types.specs.declared.listed.Listed.{Listed}
use Rattle.pddl_types.proofs.Lookups.{at_end}
use Rattle.pddl_types.proofs.ToldTypes.{one_number, still_at, tops_there}

-- ---- each name at its first place

firsts_push : (ys : List TypedValue) (x : TypedValue) → firsts (ys ++ x ∷ []) ≡ firsts ys ++ cond (is_in (map item_of ys) x.item) [] (x ∷ [])
firsts_push [] x = refl
firsts_push (y ∷ ys) x =
    let others = λ (z : TypedValue). not (is_named y.item z) in
    grind (arith, firsts_push ys x, filter-append others (firsts ys), nat_list_eq_equiv.symm y.item x.item)

-- the first of a name is not among those of another
find-others : (k : Name) (xs : List TypedValue) (n : Name) → bytes_eq n k ≡ false → find (is_named n) (filter (λ x. not (is_named k x)) xs) ≡ find (is_named n) xs
find-others k [] n apart = refl
find-others k (x ∷ xs) n apart = grind (arith, find-others k xs n apart, bytes_same k x.item)

-- and stands at its first place
find-firsts : (xs : List TypedValue) (n : Name) → find (is_named n) (firsts xs) ≡ find (is_named n) xs
find-firsts [] n = refl
find-firsts (x ∷ xs) n = grind (arith, find-others x.item (firsts xs) n, find-firsts xs n)

-- ---- an object that is found by its name

-- its type is told at the number that is held with it
pub object_told : {A : Type 0} (told : ToldValue) (n : Name) (es : List (Name × (Bor (Typed A) × ℕ))) → All (IsObjectAt told) es → (found : Option (Bor (Typed A) × ℕ)) → found ≡ lookup (bytes_eq n) es
    → IsAtOf told (find (is_named n) (map object_in es)) (option_map (λ v. v.1) found)
object_told told n [] each found is = rw is tt
object_told {A} told n (e ∷ es) each found is =
    rw is (elim (bytes_eq n e.0) as (λ b. IsAtOf told (cond b (Some (object_in e)) (find (is_named n) (map object_in es))) (option_map (λ (v : Bor (Typed A) × ℕ). v.1) (cond b (Some e.1) (lookup (bytes_eq n) es)))) [
      | true ↦ (All-head (IsObjectAt told) e es each).1
      | false ↦ object_told told n es (All-tail (IsObjectAt told) e es each) _ refl
    ])

-- ---- one that is put into a table

module _ {A B : Type 0} {told : ToldValue} (once : AreDistinct told) (seen : List TypedValue) {listed : Listed A B} (are : AreSeen told seen listed) (o : Bor (Typed A)) (number : ℕ)
    (at : IsAt told o.now.types number) (k : Name) (named : k ≡ o.now.name) where
  -- it is at odds where another number is found, and is a first of its name where none is
  as_found : (y : Option TypedValue) (found : Option (Bor (Typed A) × ℕ)) → IsAtOf told y (option_map (λ v. v.1) found)
      → (option_map_or (λ z. not (same_names z.of o.now.types)) y false ≡ option_map_or (λ v. not (v.1 == number)) found false) × (is_some y ≡ is_some found)
  as_found None None typed = (refl, refl)
  as_found None (Some v) typed = absurd typed
  as_found (Some y) None typed = absurd typed
  as_found (Some y) (Some v) typed = (ap not (sym (one_number told once y.of o.now.types v.1 number typed at)), refl)

  as_seen : (found : Option (Bor (Typed A) × ℕ)) → lookup (bytes_eq k) listed.objects.entries ≡ found
      → (is_off seen (typed_view o.now) ≡ option_map_or (λ v. not (v.1 == number)) found false)
      × (map object_in listed.objects.entries ++ cond (is_some found) [] (typed_view o.now ∷ []) ≡ firsts (seen ++ typed_view o.now ∷ []))
  as_seen found is =
      let x = typed_view o.now in
      let typed = object_told told k listed.objects.entries are.each found (sym is) in
      let (off, there) = as_found (find (is_named x.item) seen) found (rw (are.objects, find-firsts seen k, named) at typed) in
      (off, rw (are.objects, firsts_push seen x, ← is_there seen x.item, there) refl)

  -- a new name is put last, and of one that is there nothing is; the first has the number where it is not at odds
  pub put_object : {next : Listed A B} (o' : Option ℕ) (place : ℕ) (right : Bool) → o' ≡ position (bytes_eq k) (keys_of listed.objects.entries)
      → place ≡ position_or_len (bytes_eq k) (keys_of listed.objects.entries) → MatchOption o' (next.objects.entries ≡ listed.objects.entries ++ (k, (o, number)) ∷ []) (λ _. next.objects.entries ≡ listed.objects.entries)
      → right ≡ option_map_or (λ e. e.1.1 == number) (slice_get next.objects.entries place) false → (is_off seen (typed_view o.now) ≡ not right) × AreSeen told (seen ++ typed_view o.now ∷ []) next
  put_object (Some i) place right is first same answer =
      let es = listed.objects.entries in
      let found = Found-position (bytes_eq k) es i (sym is) in
      let (e, there) = some_at es i found.within in
      let (off, objects) = as_seen (Some e.1) (found.value ∙ slice_get-map (λ d. d.1) es i ∙ ap (option_map (λ d. d.1)) there) in
      (off ∙ ap not (sym (rw (same, first, found.or_len, there) at answer)), record { objects = rw same (sym (append-none _) ∙ objects); each = rw same are.each })
  put_object {next} None place right is first last answer =
      let es = listed.objects.entries in
      let none = Missing-position (bytes_eq k) es (sym is) in
      let (off, objects) = as_seen None none.value in
      let right : right ≡ true = answer ∙ rw (last, first, or_len-absent (bytes_eq k) es none.absent, at_end es (k, (o, number))) (grind (arith, nat_tests)) in
      (off ∙ ap not (sym right), record { objects = rw (last, map_push object_in es (k, (o, number)), named) objects; each = rw last (All-push (IsObjectAt told) es (k, (o, number)) are.each (sym named, at)) })

-- ---- while more is told

pub objects_still : {A : Type 0} (before after : ToldValue) (es : List (Name × (Bor (Typed A) × ℕ))) → AreKept before after → All (IsObjectAt before) es → All (IsObjectAt after) es
objects_still before after es kept = All-weaker (IsObjectAt before) (IsObjectAt after) (λ e is. (is.0, still_at before after e.1.0.now.types e.1.1 kept is.1)) es

pub seen_still : {A B : Type 0} {before after : ToldValue} {seen : List TypedValue} {listed : Listed A B} → AreKept before after → AreSeen before seen listed → AreSeen after seen listed
seen_still {before = before} {after} {listed = listed} kept are = record { objects = are.objects; each = objects_still before after listed.objects.entries kept are.each }

-- ---- the numbers of types of one primitive

-- such a type has the first number of its tops
one_first : (t : TypesValue) (types : List Name) (tops : List Span) → IsTold t types tops → length types ≤ 1 → map (λ n. (span_of t n).first) types ≡ option_map_or (λ s. s.first) (slice_get tops 0) 0 ∷ []
one_first t [] tops told few = absurd (omega (arith, told.some))
one_first t (n ∷ m ∷ ns) tops told few = absurd (omega (arith, few))
one_first t (n ∷ []) [] told few = let none = told.tops_are.all (span_of t n) (0, omega arith, refl) in cc
one_first t (n ∷ []) (s ∷ tops) told few = grind (arith, nat_tests, told.tops_are.each s (0, omega arith, refl))

pub are_numbered : {A : Type 0} {t : TypesValue} {told : ToldValue} → AreTold t told → (es : List (Name × (Bor (Typed A) × ℕ))) → All (IsObjectAt told) es
    → ((x : TypedValue) → Contains (map object_in es) x → length x.of ≤ 1) → AreNumbered t (map object_in es) (map (λ v. first_at told v.1) (values_of es))
are_numbered are [] each few = tt
are_numbered {t = t} {told} are (e ∷ es) each few =
    let types = e.1.0.now.types in
    let (tops, known) = tops_there are types e.1.1 (All-head (IsObjectAt told) e es each).1 in (
      record { one = one_first t types (tops_at told e.1.1) tops (few (object_in e) (has_first (object_in e) (map object_in es))); known = known },
      are_numbered are es (All-tail (IsObjectAt told) e es each) (λ x there. few x (has_later (object_in e) (map object_in es) x there)),
    )
