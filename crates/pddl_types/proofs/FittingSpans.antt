-- What fits a type, by the numbers of objects and tops of the type.
use Rattle.std.proofs.Common.{◌≡◌, ℕ, ◌+◌, Bool, true, false, Option, cond, List, [], ◌∷◌, ◌<◌, map, filter, length, take, refl, sym, ap, ◌∙◌, arith, IsTrue, Some, None, slice_get}
use Rattle.std.specs.List.{list_any}
use Rattle.std.specs.Option.{IsSomeAnd, MatchOption, option_map_or}
use Rattle.std.proofs.lemmas.Slice.Zip.{AllZip-left, AllZip-right}
use Rattle.std.proofs.Math.Bool.{and-true}
use Rattle.std.proofs.lemmas.List.Filters.{length-filter_more}
use Rattle.std.proofs.lemmas.Option.{get_or_from_slice_get}
use Rattle.pddl_forest.specs.Spans.{some_holds}
use Rattle.pddl_forest.specs.declared.spans.Span.{Span}
use Rattle.pddl_formula.specs.TypedLists.{TypedValue}
use Rattle.pddl_task.specs.Names.{Name, is_in}
use Rattle.pddl_task.specs.Tasks.{places_from}
use Rattle.pddl_task.specs.Types.{types_of, pairs, is_under, fits}
use Rattle.pddl_task.specs.GroundSize.{fitting_count}
use Rattle.pddl_task.proofs.Lists.{and_left, some_at}
use Rattle.pddl_types.specs.TypeSpans.{TypesValue, span_of, IsTold, DoTell, are_types, IsNumberOf, AreNumbered}
use Rattle.pddl_types.proofs.ListSums.{places_many}

-- a type of a number fits where that is told of its one primitive
pub number_fits : {t : TypesValue} {types : List Name} {number : ℕ} (slot : List Name) (fit : Bool) → IsNumberOf t types number
    → ((n : Name) → number ≡ (span_of t n).first → IsTrue (is_in (types_of t.declared) n) → fit ≡ list_any (is_under (pairs t.declared) n) slot) → fit ≡ fits (pairs t.declared) types slot
number_fits {t} {types} {number} slot fit is tells = one types is.one is.known
  where
    one : (names : List Name) → map (λ n. (span_of t n).first) names ≡ number ∷ [] → IsTrue (are_types t.declared names) → fit ≡ fits (pairs t.declared) names slot
    one [] none known = cc
    one (n ∷ []) same known = tells n (cc) (and_left (is_in (types_of t.declared) n) true known) ∙ sym (and-true (list_any (is_under (pairs t.declared) n) slot))
    one (n ∷ m ∷ ns) two known = cc

module _ (t : TypesValue) (slot : List Name) where
  abbrev fit_slot : TypedValue → Bool
  fit_slot o = fits (pairs t.declared) o.of slot

  -- an object of a number
  pub object_fits : (objects : List TypedValue) (numbers : List ℕ) → AreNumbered t objects numbers → (k number : ℕ) (fit : Bool) → slice_get numbers k ≡ Some number
      → ((n : Name) → number ≡ (span_of t n).first → IsTrue (is_in (types_of t.declared) n) → fit ≡ list_any (is_under (pairs t.declared) n) slot) → fit ≡ option_map_or fit_slot (slice_get objects k) false
  object_fits objects numbers are k number fit at tells = one (slice_get objects k) (rw at at (AllZip-right (λ (o : TypedValue). IsNumberOf t o.of) objects numbers are k))
    where
      one : (o : Option TypedValue) → IsSomeAnd o (λ x. IsNumberOf t x.of number) → fit ≡ option_map_or fit_slot o false
      one None none = absurd none
      one (Some x) is = number_fits slot fit is tells

  -- past the last one there is none
  pub none_fits : (objects : List TypedValue) (numbers : List ℕ) → AreNumbered t objects numbers → (k : ℕ) → slice_get numbers k ≡ None → false ≡ option_map_or fit_slot (slice_get objects k) false
  none_fits objects numbers are k none = one (slice_get objects k) (rw none at (AllZip-left (λ (o : TypedValue). IsNumberOf t o.of) objects numbers are k))
    where
      one : (o : Option TypedValue) → MatchOption o (Unit {0}) (λ x. ⊥) → false ≡ option_map_or fit_slot o false
      one None past = refl
      one (Some x) there = absurd there

  module _ {tops : List Span} (tell : DoTell t) (told : IsTold t slot tops) where
    -- the objects that fit
    pub fitting_places : (k : ℕ) (objects : List TypedValue) (numbers : List ℕ) → AreNumbered t objects numbers → places_from k (some_holds tops) numbers ≡ places_from k fit_slot objects
    fitting_places k [] [] are = refl
    fitting_places k [] (n ∷ numbers) are = absurd are
    fitting_places k (x ∷ objects) [] are = absurd are
    fitting_places k (x ∷ objects) (n ∷ numbers) are =
        let same = number_fits slot (some_holds tops n) are.0 (λ m is known. ap (some_holds tops) is ∙ tell m slot tops told known) in
        grind (arith, fitting_places (k + 1) objects numbers are.1, same)

    -- so many do
    pub fitting_many : (objects : List TypedValue) (numbers : List ℕ) → AreNumbered t objects numbers → length (filter (some_holds tops) numbers) ≡ fitting_count (pairs t.declared) objects slot
    fitting_many objects numbers are = sym (places_many (some_holds tops) 0 numbers) ∙ ap length (fitting_places 0 objects numbers are) ∙ places_many fit_slot 0 objects

-- one object more is looked at
pub next_fits : {X : Type 0} (test : X → Bool) (xs : List X) (i : ℕ) (fit : Bool) → i < length xs → fit ≡ option_map_or test (slice_get xs i) false
    → length (filter test (take (i + 1) xs)) ≡ length (filter test (take i xs)) + cond fit 1 0
next_fits test xs i fit low is =
    let (x, at) = some_at xs i low in
    length-filter_more test xs i x low ∙ ap (λ b. length (filter test (take i xs)) + cond b 1 0) (ap test (get_or_from_slice_get xs i x x at) ∙ sym (is ∙ ap (λ o. option_map_or test o false) at))
