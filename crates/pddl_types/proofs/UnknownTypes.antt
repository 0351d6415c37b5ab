-- Types that are used and not known, part by part.
use Rattle.std.proofs.Common.{◌≡◌, ℕ, ◌+◌, ◌<◌, not, List, ◌++◌, map, filter, length, get_or, drop, slice_get, Some, sym, flat_map}
use Rattle.std.proofs.lemmas.List.Concat.{flat_map-append}
use Rattle.std.proofs.lemmas.List.Elements.{filter-append}
use Rattle.std.proofs.lemmas.Option.{slice_get_within, get_or_from_slice_get}
use Rattle.pddl_formula.specs.TypedLists.{TypedValue}
use Rattle.pddl_domain.specs.Declarations.{TypeValue}
use Rattle.pddl_task.specs.Names.{is_in}
use Rattle.pddl_task.specs.Types.{types_of}
use Rattle.pddl_faults.proofs.ListTurns.{rest_is, views_drop}
use Rattle.pddl_types.specs.Told.{unknown_among}

pub unknown-append : (ts : List TypeValue) (xs ys : List TypedValue) → unknown_among ts (xs ++ ys) ≡ unknown_among ts xs ++ unknown_among ts ys
unknown-append ts xs ys = simp (flat_map-append, filter-append)

-- what is left of what is declared: the first, and the rest
pub declared_left : {X S : Type 0} (ts : List TypeValue) (parameters : S → List TypedValue) (view : X → S) (xs : List X) (i : ℕ) (x : X) (own : List TypedValue) → i < length xs → x ≡ get_or xs i x
    → own ≡ parameters (view x) → unknown_among ts (flat_map parameters (map view (drop i xs))) ≡ unknown_among ts own ++ unknown_among ts (flat_map parameters (map view (drop (i + 1) xs)))
declared_left ts parameters view xs i x own h at is = rw (views_drop view xs i x h at, is) (unknown-append ts (parameters (view x)) _)

-- what is left of what is typed: the first, and the rest
pub typed_left : (ts : List TypeValue) (xs : List TypedValue) (i : ℕ) (x : TypedValue) → slice_get xs i ≡ Some x
    → unknown_among ts (drop i xs) ≡ filter (λ n. not (is_in (types_of ts) n)) x.of ++ unknown_among ts (drop (i + 1) xs)
typed_left ts xs i x at = rw (rest_is xs i x (slice_get_within xs i x at) (sym (get_or_from_slice_get xs i x x at))) (filter-append (λ n. not (is_in (types_of ts) n)) x.of _)
