-- What holds of the task of linked files, since none of their faults stands.
use Rattle.std.proofs.Common.{◌≡◌, ℕ, zero, suc, ◌≤◌, ◌*◌, ◌/◌, ◌%◌, length, Bool, true, false, not, ◌==◌, nat_lt, List, [], ◌∷◌, ◌++◌, map, filter, refl, sym, ap, arith, bytes_eq, subst, inl, inr}
use Rattle.std.specs.Prelude.{Contains}
use Rattle.std.specs.List.{flat_map, IsDistinct}
use Rattle.std.proofs.lemmas.List.Elements.{Contains-append_left, Contains-append_right, Contains-append_cases}
use Rattle.std.proofs.lemmas.Nat.{div-add-mod'}
use Rattle.pddl_formula.specs.TypedLists.{TypedValue}
use Rattle.pddl_domain.specs.Domains.{DomainValue}
use Rattle.pddl_problem.specs.Inits.{GroundValue, value}
use Rattle.pddl_problem.specs.Problems.{ProblemValue}
use Rattle.pddl_task.specs.Names.{Name, is_in, word_if, repeated, item_of}
use Rattle.pddl_task.specs.Types.{types_of}
use Rattle.pddl_task.specs.Places.{init_places, places_in, metric_places, problem_places, domain_places}
use Rattle.pddl_task.specs.Settings.{symbol_of, function_signatures, objects_of, in_problem}
use Rattle.pddl_task.specs.GroundSize.{largest_size, formula_size}
use Rattle.pddl_task.specs.Faults.{primitives_of, unknown_types, domain_typed, problem_typed, retyped, repeated_in_actions, object_types, fraction_at, billion, setting_count}
use Rattle.pddl_task.specs.Linked.{IsLinked, IsGood}
use Rattle.pddl_task.specs.Tasks.{task_of, task_count, object_names}
use Rattle.pddl_task.proofs.Lists.{nil_parts, flat_parts, flat_flat, no_word, is_kept, has_none}
use Rattle.pddl_task.proofs.DistinctNames.{word_none, no_repetition, no_action_twice, action_name, firsts_distinct, firsts_have}

nothing_once : IsDistinct bytes_eq []
unfolding IsDistinct
nothing_once = tt

-- ---- names

pub objects_stand_once : (d : DomainValue) (p : ProblemValue) → IsDistinct bytes_eq (object_names (task_of d p))
objects_stand_once d p = firsts_distinct (d.constants ++ p.objects)

pub types_stand_once : (d : DomainValue) → IsGood d → IsDistinct bytes_eq (map item_of d.types)
types_stand_once d good = no_repetition [] (map item_of d.types) nothing_once good.1.0

-- the parts of fault 24, in a domain
name_parts : (d : DomainValue) → IsGood d → ((repeated [] (map symbol_of d.predicates) ≡ []) × (repeated [] (map symbol_of (function_signatures d)) ≡ []) × (repeated_in_actions [] d.actions ≡ []))
name_parts d good =
    let constants = retyped [] d.constants in
    let predicates = repeated [] (map symbol_of d.predicates) in
    let functions = repeated [] (map symbol_of (function_signatures d)) in
    let all = nil_parts (constants ++ predicates ++ functions) (repeated_in_actions [] d.actions) good.1.1.1.1.0 in
    let front = nil_parts (constants ++ predicates) functions all.0 in
    ((nil_parts constants predicates front.0).1, front.1, all.1)

pub predicates_stand_once : (d : DomainValue) → IsGood d → IsDistinct bytes_eq (map symbol_of d.predicates)
predicates_stand_once d good = no_repetition [] (map symbol_of d.predicates) nothing_once (name_parts d good).0

pub functions_stand_once : (d : DomainValue) → IsGood d → IsDistinct bytes_eq (map symbol_of (function_signatures d))
functions_stand_once d good = no_repetition [] (map symbol_of (function_signatures d)) nothing_once (name_parts d good).1

pub actions_stand_once : (d : DomainValue) → IsGood d → IsDistinct bytes_eq (map action_name d.actions)
actions_stand_once d good = no_action_twice [] d.actions nothing_once (name_parts d good).2

-- ---- types

not_below : (m n : ℕ) → nat_lt m n ≡ false → n ≤ m
not_below m n h = grind arith

mapped_nothing : {X Y : Type 0} (f : X → Y) (xs : List X) → map f xs ≡ [] → xs ≡ []
mapped_nothing f [] h = refl
mapped_nothing f (x ∷ xs) h = cc

nothing_has : {X : Type 0} (xs : List X) (x : X) → xs ≡ [] → Contains xs x → ⊥
nothing_has [] x h c = has_none x c
nothing_has (y ∷ xs) x h c = cc

pub at_most_one : (xs : List TypedValue) (x : TypedValue) → object_types xs ≡ [] → Contains xs x → (b : Bool) → nat_lt 1 (length x.of) ≡ b → length x.of ≤ 1
at_most_one xs x h c true more =
    let q : TypedValue → Bool = λ y. nat_lt 1 (length y.of) in
    absurd (nothing_has (filter q xs) x (mapped_nothing item_of (filter q xs) h) (is_kept q xs x c more))
at_most_one xs x h c false more = not_below 1 (length x.of) more

pub objects_have_one_type : (d : DomainValue) (p : ProblemValue) → IsLinked d p → (x : TypedValue) → Contains (objects_of d p) x → length x.of ≤ 1
objects_have_one_type d p linked x c =
    let parts = nil_parts (object_types d.constants) (object_types p.objects) linked.1.1.1.1.1.0 in
    elim (Contains-append_cases d.constants p.objects x (firsts_have (d.constants ++ p.objects) x c)) as (λ _. length x.of ≤ 1) [
      | inl constant ↦ at_most_one d.constants x parts.0 constant (nat_lt 1 (length x.of)) refl
      | inr object ↦ at_most_one p.objects x parts.1 object (nat_lt 1 (length x.of)) refl
    ]

pub in_flat : {X Y : Type 0} (f : X → List Y) (xs : List X) (x : X) (y : Y) → Contains xs x → Contains (f x) y → Contains (flat_map f xs) y
in_flat f [] x y c h = absurd (has_none x c)
in_flat f (z ∷ xs) x y (zero, low, is) h = Contains-append_left (f z) (flat_map f xs) y (subst (λ w. Contains (f w) y) (sym is) h)
in_flat f (z ∷ xs) x y (suc i, low, is) h = Contains-append_right (f z) (flat_map f xs) y (in_flat f xs x y (i, omega arith, is) h)

pub type_known : (d : DomainValue) (xs : List TypedValue) → unknown_types d xs ≡ [] → (x : TypedValue) → Contains xs x → (t : Name) → Contains x.of t → (b : Bool) → is_in (types_of d.types) t ≡ b → is_in (types_of d.types) t ≡ true
type_known d xs h x c t has true known = known
type_known d xs h x c t has false unknown =
    let q : Name → Bool = λ n. not (is_in (types_of d.types) n) in
    absurd (nothing_has (filter q (flat_map primitives_of xs)) t h (is_kept q (flat_map primitives_of xs) t (in_flat primitives_of xs x t c has) (ap not unknown)))

pub types_are_known : (d : DomainValue) (p : ProblemValue) → IsLinked d p → (x : TypedValue) → Contains (domain_typed d ++ problem_typed p) x → (t : Name) → Contains x.of t → is_in (types_of d.types) t ≡ true
types_are_known d p linked x c t has =
    let parts = nil_parts (unknown_types d (domain_typed d)) (unknown_types d (problem_typed p)) linked.1.1.1.0 in
    elim (Contains-append_cases (domain_typed d) (problem_typed p) x c) as (λ _. is_in (types_of d.types) t ≡ true) [
      | inl front ↦ type_known d (domain_typed d) parts.0 x front t has (is_in (types_of d.types) t) refl
      | inr back ↦ type_known d (problem_typed p) parts.1 x back t has (is_in (types_of d.types) t) refl
    ]

-- ---- costs and sizes

whole : (n : ℕ) → (n % billion == 0) ≡ true → n / billion * billion ≡ n
whole n h =
    let sum = div-add-mod' n billion in
    let none : n % billion ≡ 0 = grind arith in
    omega (arith, sum, none)

pub costs_are_whole : (d : DomainValue) (p : ProblemValue) → IsLinked d p → (f : GroundValue) (n : ℕ) → Contains p.init (value f n) → n / billion * billion ≡ n
costs_are_whole d p linked f n c =
    let all = (nil_parts (flat_map fraction_at (domain_places d)) (flat_map fraction_at (problem_places p)) linked.1.1.1.1.1.1.1.1.1.1.0).1 in
    let before_metric = (flat_parts fraction_at (flat_map init_places p.init ++ places_in p.goal []) (metric_places p.metric) all).0 in
    let init = (flat_parts fraction_at (flat_map init_places p.init) (places_in p.goal []) before_metric).0 in
    let item = flat_flat fraction_at init_places p.init init (value f n) c in
    let word = (nil_parts (word_if (not (n % billion == 0)) f.name) [] item).0 in
    whole n (no_word (n % billion == 0) f.name word)

pub goal_is_within : (d : DomainValue) (p : ProblemValue) → IsLinked d p → formula_size (task_count (task_of d p)) p.goal ≤ largest_size
goal_is_within d p linked =
    not_below largest_size (formula_size (task_count (task_of d p)) p.goal)
    (word_none (nat_lt largest_size (formula_size (setting_count (in_problem d p)) p.goal)) [] linked.1.1.1.1.1.1.1.1.1.1.1.1.1.1.0)
