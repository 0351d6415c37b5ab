-- Names that stand once: what no repetition is found in, and lists that keep each name at its first place.
use Rattle.std.proofs.Common.{◌≡◌, suc, Bool, true, false, not, cond, List, [], ◌∷◌, ◌++◌, map, filter, refl, sym, arith, bytes_eq, subst, inl, inr}
use Rattle.std.specs.Prelude.{Contains}
use Rattle.std.specs.List.{flat_map, IsDistinct, AllByRecursion}
use Rattle.std.proofs.lemmas.Cmp.{nat_list_eq_equiv}
use Rattle.std.proofs.lemmas.Map.Keys.{IsDistinct-head, IsDistinct-tail, IsDistinct-cons, IsDistinct-push}
use Rattle.pddl_formula.specs.TypedLists.{TypedValue}
use Rattle.pddl_domain.specs.Actions.{ActionValue}
use Rattle.pddl_task.specs.Names.{Name, is_in, word_if, repeated, item_of, is_named, firsts}
use Rattle.pddl_task.specs.Places.{action_places}
use Rattle.pddl_task.specs.Faults.{repeated_at, repeated_in_actions}
use Rattle.pddl_task.proofs.Lists.{append-one, append-none, nil_parts, kept_is, has_cases}

-- ---- no repetition

pub word_none : (b : Bool) (w : Name) → word_if b w ≡ [] → b ≡ false
word_none true w h = cc
word_none false w h = refl

pub no_repetition : (seen ns : List Name) → IsDistinct bytes_eq seen → repeated seen ns ≡ [] → IsDistinct bytes_eq (seen ++ ns)
no_repetition seen [] once h = subst (IsDistinct bytes_eq) (sym (append-none seen)) once
no_repetition seen (n ∷ ns) once h =
    let parts = nil_parts (word_if (is_in seen n) n) (repeated (seen ++ n ∷ []) ns) h in
    subst (IsDistinct bytes_eq) (append-one seen n ns)
    (no_repetition (seen ++ n ∷ []) ns (IsDistinct-push nat_list_eq_equiv seen n once (word_none (is_in seen n) n parts.0)) parts.1)

abbrev pub action_name : ActionValue → Name
action_name a = a.name

pub no_action_twice : (seen : List Name) (rest : List ActionValue) → IsDistinct bytes_eq seen → repeated_in_actions seen rest ≡ [] → IsDistinct bytes_eq (seen ++ map action_name rest)
no_action_twice seen [] once h = subst (IsDistinct bytes_eq) (sym (append-none seen)) once
no_action_twice seen (a ∷ rest) once h =
    let parts = nil_parts (word_if (is_in seen a.name) a.name ++ flat_map repeated_at (action_places a)) (repeated_in_actions (seen ++ a.name ∷ []) rest) h in
    let name = (nil_parts (word_if (is_in seen a.name) a.name) (flat_map repeated_at (action_places a)) parts.0).0 in
    subst (IsDistinct bytes_eq) (append-one seen a.name (map action_name rest))
    (no_action_twice (seen ++ a.name ∷ []) rest (IsDistinct-push nat_list_eq_equiv seen a.name once (word_none (is_in seen a.name) a.name name)) parts.1)

-- ---- each name at its first place

all_kept : (P : Name → Type 0) (q : TypedValue → Bool) (xs : List TypedValue) → AllByRecursion P (map item_of xs) → AllByRecursion P (map item_of (filter q xs))
all_kept P q [] h = tt
all_kept P q (x ∷ xs) h =
    elim (q x) as (λ b. AllByRecursion P (map item_of (cond b (x ∷ filter q xs) (filter q xs)))) [ true ↦ (h.0, all_kept P q xs h.1) | false ↦ all_kept P q xs h.1 ]

distinct_kept : (q : TypedValue → Bool) (xs : List TypedValue) → IsDistinct bytes_eq (map item_of xs) → IsDistinct bytes_eq (map item_of (filter q xs))
distinct_kept q [] once = once
distinct_kept q (x ∷ xs) once =
    let more = distinct_kept q xs (IsDistinct-tail bytes_eq x.item (map item_of xs) once) in
    elim (q x) as (λ b. IsDistinct bytes_eq (map item_of (cond b (x ∷ filter q xs) (filter q xs)))) [
      | true ↦ IsDistinct-cons bytes_eq x.item (map item_of (filter q xs)) (all_kept (λ n. bytes_eq x.item n ≡ false) q xs (IsDistinct-head bytes_eq x.item (map item_of xs) once)) more
      | false ↦ more
    ]

others_apart : (n : Name) (xs : List TypedValue) → AllByRecursion (λ m. bytes_eq n m ≡ false) (map item_of (filter (λ x. not (is_named n x)) xs))
others_apart n [] = tt
others_apart n (x ∷ xs) =
    elim (bytes_eq n x.item) as (λ b. bytes_eq n x.item ≡ b → AllByRecursion (λ m. bytes_eq n m ≡ false) (map item_of (cond (not b) (x ∷ filter (λ y. not (is_named n y)) xs) (filter (λ y. not (is_named n y)) xs)))) [
      | true ↦ λ _. others_apart n xs
      | false ↦ λ apart. (apart, others_apart n xs)
    ] refl

pub firsts_distinct : (xs : List TypedValue) → IsDistinct bytes_eq (map item_of (firsts xs))
unfolding IsDistinct
firsts_distinct [] = tt
firsts_distinct (x ∷ xs) =
    IsDistinct-cons bytes_eq x.item (map item_of (filter (λ y. not (is_named x.item y)) (firsts xs))) (others_apart x.item (firsts xs)) (distinct_kept (λ y. not (is_named x.item y)) (firsts xs) (firsts_distinct xs))

pub firsts_have : (xs : List TypedValue) (x : TypedValue) → Contains (firsts xs) x → Contains xs x
firsts_have [] x c = c
firsts_have (y ∷ xs) x c =
    elim (has_cases y (filter (λ z. not (is_named y.item z)) (firsts xs)) x c) as (λ _. Contains (y ∷ xs) x) [
      | inl same ↦ (0, omega arith, same)
      | inr later ↦ let r = firsts_have xs x (kept_is (λ z. not (is_named y.item z)) (firsts xs) x later).0 in (suc r.0, omega (arith, r.1), r.2)
    ]
