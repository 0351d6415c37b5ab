-- Objects by their numbers: names that are looked up one after another, and what does not fit.
use Rattle.std.proofs.Common.{◌≡◌, ◌<◌, ◌≤◌, ℕ, ◌+◌, Bool, true, false, not, ◌||◌, List, [], ◌∷◌, ◌++◌, map, length, get_or, drop, take, min, refl, sym, ap, ◌∙◌, bytes_eq, arith, add-one, drop-cons, ◌⊎◌, inl, inr}
use Rattle.std.specs.Prelude.{Option, Some, None, is_some, find, position}
use Rattle.std.specs.List.{list_any}
use Rattle.std.specs.Option.{option_map_or}
use Rattle.std.proofs.lemmas.Bool.{cases_lt}
use Rattle.std.proofs.lemmas.List.{map_more, take_all, drop_all}
use Rattle.pddl_formula.specs.Terms.{name}
use Rattle.pddl_formula.specs.TypedLists.{TypedValue}
use Rattle.pddl_domain.specs.Declarations.{TypeValue}
use Rattle.pddl_task.specs.Names.{Name, is_in, item_of, is_named, number_in}
use Rattle.pddl_task.specs.Types.{pairs, fits}
use Rattle.pddl_task.specs.Faults.{is_misfit, some_misfit}
use Rattle.pddl_task.specs.Tasks.{TaskValue, object_names}
use Rattle.pddl_task.proofs.Lists.{none_left, none_right}
use Rattle.pddl_faults.proofs.ListTurns.{rest_is}
use Rattle.pddl_linked_plan.specs.StepFaults.{naming}
use Rattle.pddl_linked_plan.specs.FittingObjects.{fits_number, some_unfit}
use Rattle.pddl_task.proofs.Numbers.{number_is, is_placed}
use Rattle.pddl_linked_plan.proofs.Numbers.{found_at_number, is_found}

-- ---- names that are looked up

-- some of these names is not known
abbrev pub some_unknown : List Name → List Name → Bool
some_unknown known ns = list_any (λ o. not (is_in known o)) ns

-- the names up to a place are known, and have these numbers
pub record AreNumbered (known names : List Name) (i : ℕ) (numbers : List ℕ) : Type 0 where
  pub known_so_far : some_unknown known (drop i names) ≡ some_unknown known names
  pub numbers_are : numbers ≡ map (number_in known) (take i names)

pub none_numbered : (known names : List Name) (numbers : List ℕ) → numbers ≡ [] → AreNumbered known names 0 numbers
none_numbered known names numbers none = record { known_so_far = refl; numbers_are = none }

module _ (known names : List Name) (i : ℕ) (n : Name) where
  at_name : i < length names → n ≡ get_or names i n → some_unknown known (drop i names) ≡ not (is_in known n) || some_unknown known (drop (i + 1) names)
  at_name low at = ap (some_unknown known) (rest_is names i n low at)

  -- the next one is known
  pub numbered_more : (numbers : List ℕ) (k : ℕ) (m : Name) → i < length names → n ≡ get_or names i n → m ≡ n → Some k ≡ position (bytes_eq m) known
      → AreNumbered known names i numbers → AreNumbered known names (i + 1) (numbers ++ k ∷ [])
  numbered_more numbers k m low at same found so_far =
      let there : Some k ≡ position (bytes_eq n) known = found ∙ ap (λ x. position (bytes_eq x) known) same in
      let here : is_in known n ≡ true = sym (is_placed known n) ∙ sym (ap is_some there) in
      let number : k ≡ number_in known (get_or names i n) = number_is known n k there ∙ ap (number_in known) at in
      record {
        known_so_far = sym (at_name low at ∙ ap (λ b. not b || some_unknown known (drop (i + 1) names)) here) ∙ so_far.known_so_far;
        numbers_are = ap (λ ks. ks ++ k ∷ []) so_far.numbers_are ∙ ap (λ j. map (number_in known) (take i names) ++ j ∷ []) number
            ∙ sym (map_more (number_in known) names i n low);
      }

  -- the next one is not
  pub unknown_found : (numbers : List ℕ) (m : Name) → i < length names → n ≡ get_or names i n → m ≡ n → None ≡ position (bytes_eq m) known
      → AreNumbered known names i numbers → false ≡ not (some_unknown known names)
  unknown_found numbers m low at same found so_far =
      let there : None ≡ position (bytes_eq n) known = found ∙ ap (λ x. position (bytes_eq x) known) same in
      let here : is_in known n ≡ false = sym (is_placed known n) ∙ sym (ap is_some there) in
      ap not (sym (ap (λ b. not b || some_unknown known (drop (i + 1) names)) here) ∙ sym (at_name low at) ∙ so_far.known_so_far)

-- all are known
pub all_known : (known names : List Name) (i : ℕ) (numbers : List ℕ) → length names ≤ i → AreNumbered known names i numbers → true ≡ not (some_unknown known names)
all_known known names i numbers past so_far = ap not (sym (ap (some_unknown known) (drop_all i names past)) ∙ so_far.known_so_far)

pub all_numbered : (known names : List Name) (i : ℕ) (numbers : List ℕ) → length names ≤ i → AreNumbered known names i numbers → numbers ≡ map (number_in known) names
all_numbered known names i numbers past so_far = so_far.numbers_are ∙ ap (map (number_in known)) (take_all i names past)

-- ---- what does not fit

misfit_is : (ps : List TypeValue) (o : Option TypedValue) (x : TypedValue) → is_some o ≡ true → not (option_map_or (λ y. fits ps y.of x.of) o false) ≡ is_misfit ps o x
misfit_is ps None x h = cc
misfit_is ps (Some y) x h = refl

held : (b : Bool) → not b ≡ false → b ≡ true
held true h = refl
held false h = cc

-- of objects that are known, what does not fit by number does not fit by name
pub unfit_is : (task : TaskValue) (names : List Name) (xs : List TypedValue) → some_unknown (object_names task) names ≡ false
    → some_unfit task (map (number_in (object_names task)) names) xs ≡ some_misfit (naming task.types task.objects) [] (map name names) xs
unfit_is task [] xs known = refl
unfit_is task (n ∷ names) [] known = refl
unfit_is task (n ∷ names) (x ∷ xs) known =
    let here : is_in (object_names task) n ≡ true =
    held (is_in (object_names task) n) (none_left (not (is_in (object_names task) n)) (some_unknown (object_names task) names) known) in
    let rest = none_right (not (is_in (object_names task) n)) (some_unknown (object_names task) names) known in
    let ps = pairs task.types in
    let found = find (is_named n) task.objects in
    ap (λ o. not (option_map_or (λ y. fits ps y.of x.of) o false) || some_unfit task (map (number_in (object_names task)) names) xs) (sym (found_at_number item_of task.objects n))
    ∙ ap (λ b. b || some_unfit task (map (number_in (object_names task)) names) xs) (misfit_is ps found x (sym (is_found item_of task.objects n) ∙ here))
    ∙ ap (λ b. is_misfit ps found x || b) (unfit_is task names xs rest)

-- ---- numbers and parameters in turn

no_parameters : (task : TaskValue) (numbers : List ℕ) → some_unfit task numbers [] ≡ false
no_parameters task [] = refl
no_parameters task (number ∷ numbers) = refl

which : (m n i : ℕ) → min m n ≤ i → (m ≤ i) ⊎ (n ≤ i)
which m n i h = elim (cases_lt i m) as (λ _. (m ≤ i) ⊎ (n ≤ i)) [ inl k ↦ inr (omega (arith, h, k)) | inr k ↦ inl k ]

module _ (task : TaskValue) (numbers : List ℕ) (xs : List TypedValue) where
  -- some of all does not fit where some of those from a place on does not
  abbrev pub IsLeft : ℕ → Type 0
  IsLeft i = some_unfit task (drop i numbers) (drop i xs) ≡ some_unfit task numbers xs

  front : (i : ℕ) (x : TypedValue) → i < length numbers → i < length xs
      → some_unfit task (drop i numbers) (drop i xs) ≡ not (fits_number task (get_or numbers i 0) (get_or xs i x).of) || some_unfit task (drop (i + 1) numbers) (drop (i + 1) xs)
  front i x h k = rw (add-one, drop-cons numbers i 0 h, drop-cons xs i x k) refl

  at_place : (i last : ℕ) (x : TypedValue) (fitting : Bool) → last ≡ min (length numbers) (length xs) → i < last → x ≡ get_or xs i x → fitting ≡ fits_number task (get_or numbers i 0) x.of
      → some_unfit task (drop i numbers) (drop i xs) ≡ not fitting || some_unfit task (drop (i + 1) numbers) (drop (i + 1) xs)
  at_place i last x fitting end low at is =
      let rest = some_unfit task (drop (i + 1) numbers) (drop (i + 1) xs) in
      front i x (omega (arith, end, low)) (omega (arith, end, low))
      ∙ ap (λ y. not (fits_number task (get_or numbers i 0) y.of) || rest) (sym at) ∙ ap (λ b. not b || rest) (sym is)

  -- the one at a place does not fit
  pub unfit_there : (i last : ℕ) (x : TypedValue) (fitting : Bool) → last ≡ min (length numbers) (length xs) → i < last → x ≡ get_or xs i x → fitting ≡ fits_number task (get_or numbers i 0) x.of
      → fitting ≡ false → IsLeft i → true ≡ some_unfit task numbers xs
  unfit_there i last x fitting end low at is off so_far =
      sym (at_place i last x fitting end low at is ∙ ap (λ b. not b || some_unfit task (drop (i + 1) numbers) (drop (i + 1) xs)) off) ∙ so_far

  -- it does, and those behind it are left
  pub fits_there : (i last : ℕ) (x : TypedValue) (fitting : Bool) → last ≡ min (length numbers) (length xs) → i < last → x ≡ get_or xs i x → fitting ≡ fits_number task (get_or numbers i 0) x.of
      → fitting ≡ true → IsLeft i → IsLeft (i + 1)
  fits_there i last x fitting end low at is on so_far =
      sym (at_place i last x fitting end low at is ∙ ap (λ b. not b || some_unfit task (drop (i + 1) numbers) (drop (i + 1) xs)) on) ∙ so_far

  -- none is left
  pub all_fit : (i last : ℕ) → last ≡ min (length numbers) (length xs) → last ≤ i → IsLeft i → false ≡ some_unfit task numbers xs
  all_fit i last end past so_far = sym (at_end (which (length numbers) (length xs) i (omega (arith, end, past)))) ∙ so_far
    where
      at_end : (length numbers ≤ i) ⊎ (length xs ≤ i) → some_unfit task (drop i numbers) (drop i xs) ≡ false
      at_end (inl h) = ap (λ ns. some_unfit task ns (drop i xs)) (drop_all i numbers h)
      at_end (inr h) = ap (some_unfit task (drop i numbers)) (drop_all i xs h) ∙ no_parameters task (drop i numbers)
