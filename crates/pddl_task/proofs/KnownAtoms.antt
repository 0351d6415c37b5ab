-- Every atom that a linked step, goal or initial state speaks of is known to the task: no name in it is unknown (fault 26).
use Rattle.std.proofs.Common.{◌≡◌, ℕ, zero, suc, length, Bool, true, false, not, ◌&&◌, ◌||◌, cond, List, [], ◌∷◌, ◌++◌, map, refl, sym, ap, ◌∙◌, arith, bytes_eq, subst}
use Rattle.std.specs.Prelude.{Contains}
use Rattle.std.specs.List.{list_all, flat_map, filter_map}
use Rattle.pddl_formula.specs.Terms.{TermValue, AtomValue, name, variable}
use Rattle.pddl_formula.specs.TypedLists.{TypedValue}
use Rattle.pddl_formula.specs.Formulas.{FormulaValue, FormulaValues, atom, equal, negation, implication, conjunction, disjunction, existential, universal, no_formulas, formula}
use Rattle.pddl_effect.specs.Effects as effects
use Rattle.pddl_effect.specs.Effects.{EffectValue, EffectValues, conditional, addition, deletion, increase, no_effects, effect}
use Rattle.pddl_domain.specs.Domains.{DomainValue}
use Rattle.pddl_problem.specs.Inits.{GroundValue, InitValue, holds, fails, value}
use Rattle.pddl_problem.specs.Problems.{ProblemValue}
use Rattle.pddl_task.specs.Names.{Name, is_in, word_if, item_of, firsts}
use Rattle.pddl_task.specs.Types.{pairs, fits, fitting}
use Rattle.pddl_task.specs.Places.{Place, says, calls, counts, binds, at, binding, places_in, places_in_all, effect_places, effects_places, action_places, domain_places, problem_places, init_places, metric_places, ground_atom, ground_call}
use Rattle.pddl_task.specs.Settings.{Setting, symbol_of, function_signatures, in_domain, in_problem, objects_of}
use Rattle.pddl_task.specs.Faults.{unknown_at, unknown_term}
use Rattle.pddl_task.specs.Linked.{IsLinked}
use Rattle.pddl_task.specs.Tasks.{task_of, fact_in, cost_in, object_names, fitting_names}
use Rattle.pddl_task.specs.Valuations.{Valuation, object_of, object_at, grounded, giving, over_valuations}
use Rattle.pddl_task.specs.Known.{formula_atoms, formulas_atoms, Spoken, is_read, atom_of, effect_atoms, effects_atoms, is_known, is_known_call, StepsAreKnown, GoalIsKnown, InitialIsKnown, CostsAreKnown}
use Rattle.std.proofs.lemmas.List.Folds.{list_all-append, list_all-map}
use Rattle.pddl_task.proofs.Lists.{and_left, and_right, and_both, or_right, all_found, has_first, has_later, same_bytes, is_in-append, is_in-firsts, no_word, nil_parts, flat_parts, flat_flat}

-- ---- valuations

-- a valuation gives each bound variable one of the names
pub Covers : List Name → Valuation → List TypedValue → Type 0
Covers names v b = (x : Name) → is_in (map item_of b) x ≡ true → is_in names (object_of v x) ≡ true

covers_more : (names : List Name) (v : Valuation) (b : List TypedValue) (x : TypedValue) (o : Name) → Covers names v b → is_in names o ≡ true → Covers names ((x.item, o) ∷ v) (x ∷ b)
unfolding Covers
covers_more names v b x o covers here y h =
    elim (bytes_eq y x.item) as (λ t. (t || is_in (map item_of b) y) ≡ true → is_in names (cond t o (object_of v y)) ≡ true) [ true ↦ λ _. here | false ↦ λ k. covers y k ] h

-- an action's parameters, given objects
covers_given : (names : List Name) (xs : List TypedValue) (os : List Name) (v : Valuation) (b : List TypedValue) → length os ≡ length xs → list_all (is_in names) os ≡ true → Covers names v b → Covers names (giving xs os v) (binding xs b)
covers_given names [] [] v b len known covers = covers
covers_given names [] (o ∷ os) v b len known covers = absurd (omega (arith, len))
covers_given names (x ∷ xs) [] v b len known covers = absurd (omega (arith, len))
covers_given names (x ∷ xs) (o ∷ os) v b len known covers =
    let here : is_in names o ≡ true = and_left (is_in names o) (list_all (is_in names) os) known in
    covers_given names xs os ((x.item, o) ∷ v) (x ∷ b) (omega (arith, len)) (and_right (is_in names o) (list_all (is_in names) os) known) (covers_more names v b x o covers here)

covers_nothing : (names : List Name) → Covers names [] []
unfolding Covers
covers_nothing names x h = cc

-- ---- places where no name is unknown

one_place : (s : Setting) (pl : Place) (pls : List Place) → flat_map (unknown_at s) (pl ∷ pls) ≡ [] → (unknown_at s pl ≡ []) × (flat_map (unknown_at s) pls ≡ [])
one_place s pl pls h = nil_parts (unknown_at s pl) (flat_map (unknown_at s) pls) h

-- the names of an atom, where nothing in its place is unknown
atom_names : (s : Setting) (b : List TypedValue) (a : AtomValue) → unknown_at s (at b (says a)) ≡ [] → (is_in (map symbol_of s.predicates) a.predicate ≡ true) × (flat_map (unknown_term s b) a.terms ≡ [])
atom_names s b a h =
    let parts = nil_parts (word_if (not (is_in (map symbol_of s.predicates) a.predicate)) a.predicate) (flat_map (unknown_term s b) a.terms) h in
    (no_word (is_in (map symbol_of s.predicates) a.predicate) a.predicate parts.0, parts.1)

-- each of what two lists hold, and of what is listed of each of a list
all_joined : {X : Type 0} (q : X → Bool) (xs ys : List X) → list_all q xs ≡ true → list_all q ys ≡ true → list_all q (xs ++ ys) ≡ true
all_joined q xs ys h k = list_all-append q xs ys ∙ and_both (list_all q xs) (list_all q ys) h k

all_listed : {X Y : Type 0} (q : X → Bool) (f : Y → List X) (os : List Y) → ((o : Y) → Contains os o → list_all q (f o) ≡ true) → list_all q (flat_map f os) ≡ true
all_listed q f [] h = refl
all_listed q f (o ∷ os) h = all_joined q (f o) (flat_map f os) (h o (has_first o os)) (all_listed q f os (λ x c. h x (has_later o os x c)))

-- over a setting, the names of the task's objects, and the fitting ones
module _ (s : Setting) (names : List Name) (fit : List Name → List Name)
    (constants : (n : Name) → is_in (map item_of s.objects) n ≡ true → is_in names n ≡ true)
    (fitted : (types : List Name) (o : Name) → Contains (fit types) o → is_in names o ≡ true) where
  abbrev knows : GroundValue → Bool
  knows g = is_in (map symbol_of s.predicates) g.name && list_all (is_in names) g.objects

  abbrev knows_spoken : Spoken → Bool
  knows_spoken x = knows (atom_of x)

  term_known : (v : Valuation) (b : List TypedValue) (t : TermValue) → Covers names v b → unknown_term s b t ≡ [] → is_in names (object_at v t) ≡ true
  unfolding Covers
  term_known v b (name n) covers h = constants n (no_word (is_in (map item_of s.objects) n) n h)
  term_known v b (variable x) covers h = covers x (no_word (is_in (map item_of b) x) x h)

  terms_known : (v : Valuation) (b : List TypedValue) (ts : List TermValue) → Covers names v b → flat_map (unknown_term s b) ts ≡ [] → list_all (is_in names) (map (object_at v) ts) ≡ true
  terms_known v b [] covers h = refl
  terms_known v b (t ∷ ts) covers h =
      let parts = nil_parts (unknown_term s b t) (flat_map (unknown_term s b) ts) h in
      and_both (is_in names (object_at v t)) (list_all (is_in names) (map (object_at v) ts)) (term_known v b t covers parts.0) (terms_known v b ts covers parts.1)

  atom_known : (v : Valuation) (b : List TypedValue) (a : AtomValue) → Covers names v b → unknown_at s (at b (says a)) ≡ [] → (knows (grounded v a) && true) ≡ true
  atom_known v b a covers h =
      let parts = atom_names s b a h in
      and_both (knows (grounded v a)) true (and_both (is_in (map symbol_of s.predicates) a.predicate) (list_all (is_in names) (map (object_at v) a.terms)) parts.0 (terms_known v b a.terms covers parts.1)) refl

  under_known : {X : Type 0} (q : X → Bool) (listed : Valuation → List X) (xs b : List TypedValue) → ((u : Valuation) → Covers names u (binding xs b) → list_all q (listed u) ≡ true)
      → (v : Valuation) → Covers names v b → list_all q (over_valuations fit xs listed v) ≡ true
  under_known q listed [] b h v covers = h v covers
  under_known q listed (x ∷ xs) b h v covers =
      all_listed q (λ o. over_valuations fit xs listed ((x.item, o) ∷ v)) (fit x.of) (λ o c. under_known q listed xs (x ∷ b) h ((x.item, o) ∷ v) (covers_more names v b x o covers (fitted x.of o c)))

  mutual
    pub formula_known : (f : FormulaValue) (b : List TypedValue) (v : Valuation) → Covers names v b → flat_map (unknown_at s) (places_in f b) ≡ [] → list_all knows (formula_atoms fit f v) ≡ true
    formula_known (atom a) b v covers h = atom_known v b a covers (one_place s (at b (says a)) [] h).0
    formula_known (equal t u) b v covers h = refl
    formula_known (negation f) b v covers h = formula_known f b v covers h
    formula_known (implication f g) b v covers h =
        let parts = flat_parts (unknown_at s) (places_in f b) (places_in g b) h in
        all_joined knows (formula_atoms fit f v) (formula_atoms fit g v) (formula_known f b v covers parts.0) (formula_known g b v covers parts.1)
    formula_known (conjunction fs) b v covers h = formulas_known fs b v covers h
    formula_known (disjunction fs) b v covers h = formulas_known fs b v covers h
    formula_known (existential xs f) b v covers h =
        under_known knows (formula_atoms fit f) xs b (λ u c. formula_known f (binding xs b) u c (one_place s (at b (binds xs)) (places_in f (binding xs b)) h).1) v covers
    formula_known (universal xs f) b v covers h =
        under_known knows (formula_atoms fit f) xs b (λ u c. formula_known f (binding xs b) u c (one_place s (at b (binds xs)) (places_in f (binding xs b)) h).1) v covers

    pub formulas_known : (fs : FormulaValues) (b : List TypedValue) (v : Valuation) → Covers names v b → flat_map (unknown_at s) (places_in_all fs b) ≡ [] → list_all knows (formulas_atoms fit fs v) ≡ true
    formulas_known no_formulas b v covers h = refl
    formulas_known (formula f fs) b v covers h =
        let parts = flat_parts (unknown_at s) (places_in f b) (places_in_all fs b) h in
        all_joined knows (formula_atoms fit f v) (formulas_atoms fit fs v) (formula_known f b v covers parts.0) (formulas_known fs b v covers parts.1)

  mutual
    pub effect_known : (e : EffectValue) (b : List TypedValue) (v : Valuation) → Covers names v b → flat_map (unknown_at s) (effect_places e b) ≡ [] → list_all knows_spoken (effect_atoms fit e v) ≡ true
    effect_known (effects.conjunction es) b v covers h = effects_known es b v covers h
    effect_known (effects.universal xs e) b v covers h =
        under_known knows_spoken (effect_atoms fit e) xs b (λ u c. effect_known e (binding xs b) u c (one_place s (at b (binds xs)) (effect_places e (binding xs b)) h).1) v covers
    effect_known (conditional f e) b v covers h =
        let parts = flat_parts (unknown_at s) (places_in f b) (effect_places e b) h in
        all_joined knows_spoken (map is_read (formula_atoms fit f v)) (effect_atoms fit e v)
        (list_all-map knows_spoken is_read (formula_atoms fit f v) ∙ formula_known f b v covers parts.0) (effect_known e b v covers parts.1)
    effect_known (addition a) b v covers h = atom_known v b a covers (one_place s (at b (says a)) [] h).0
    effect_known (deletion a) b v covers h = atom_known v b a covers (one_place s (at b (says a)) [] h).0
    effect_known (increase a) b v covers h = refl

    pub effects_known : (es : EffectValues) (b : List TypedValue) (v : Valuation) → Covers names v b → flat_map (unknown_at s) (effects_places es b) ≡ [] → list_all knows_spoken (effects_atoms fit es v) ≡ true
    effects_known no_effects b v covers h = refl
    effects_known (effect e es) b v covers h =
        let parts = flat_parts (unknown_at s) (effect_places e b) (effects_places es b) h in
        all_joined knows_spoken (effect_atoms fit e v) (effects_atoms fit es v) (effect_known e b v covers parts.0) (effects_known es b v covers parts.1)

-- ---- objects

first_or : (x : TypedValue) (ms ns : List Name) (o : Name) → (Contains ms o → is_in ns o ≡ true) → Contains (x.item ∷ ms) o → (bytes_eq o x.item || is_in ns o) ≡ true
first_or x ms ns o more (zero, low, is) = let here : bytes_eq o x.item ≡ true = same_bytes o x.item (sym is) in cc
first_or x ms ns o more (suc i, low, is) = or_right (bytes_eq o x.item) (is_in ns o) (more (i, omega arith, is))

-- fitting objects are objects
fitting_is_in : (ps : _) (xs : List TypedValue) (types : List Name) (o : Name) → Contains (map item_of (fitting ps xs types)) o → is_in (map item_of xs) o ≡ true
fitting_is_in ps [] types o (i, low, is) = absurd (omega (arith, low))
fitting_is_in ps (x ∷ xs) types o c =
    elim (fits ps x.of types) as (λ t. Contains (map item_of (cond t (x ∷ fitting ps xs types) (fitting ps xs types))) o → (bytes_eq o x.item || is_in (map item_of xs) o) ≡ true) [
      | true ↦ λ k. first_or x (map item_of (fitting ps xs types)) (map item_of xs) o (λ m. fitting_is_in ps xs types o m) k
      | false ↦ λ k. or_right (bytes_eq o x.item) (is_in (map item_of xs) o) (fitting_is_in ps xs types o k)
    ] c

map-append-items : (xs ys : List TypedValue) → map item_of (xs ++ ys) ≡ map item_of xs ++ map item_of ys
map-append-items [] ys = refl
map-append-items (x ∷ xs) ys = ap (λ ns. x.item ∷ ns) (map-append-items xs ys)

constants_are_objects : (d : DomainValue) (p : ProblemValue) (n : Name) → is_in (map item_of (firsts d.constants)) n ≡ true → is_in (map item_of (objects_of d p)) n ≡ true
constants_are_objects d p n h =
    is_in-firsts (d.constants ++ p.objects) n
    ∙ ap (λ ns. is_in ns n) (map-append-items d.constants p.objects)
    ∙ is_in-append (map item_of d.constants) (map item_of p.objects) n (sym (is_in-firsts d.constants n) ∙ h)

pub fitting_are_objects : (d : DomainValue) (p : ProblemValue) (types : List Name) (o : Name) → Contains (fitting_names (task_of d p) types) o → is_in (object_names (task_of d p)) o ≡ true
fitting_are_objects d p types o c = fitting_is_in (pairs d.types) (objects_of d p) types o c

-- ---- what is linked

-- no name is unknown
knows_names : (d : DomainValue) (p : ProblemValue) → IsLinked d p → (flat_map (unknown_at (in_domain d)) (domain_places d) ≡ []) × (flat_map (unknown_at (in_problem d p)) (problem_places p) ≡ [])
knows_names d p linked = nil_parts (flat_map (unknown_at (in_domain d)) (domain_places d)) (flat_map (unknown_at (in_problem d p)) (problem_places p)) linked.1.1.1.1.1.1.0

pub steps_are_known : (d : DomainValue) (p : ProblemValue) → IsLinked d p → StepsAreKnown (task_of d p)
steps_are_known d p linked a has os len known =
    let s = in_domain d in
    let names = map item_of (objects_of d p) in
    let fit = fitting_names (task_of d p) in
    let bound = binding a.parameters [] in
    let places = flat_flat (unknown_at s) action_places d.actions (knows_names d p linked).0 a has in
    let inner = (one_place s (at [] (binds a.parameters)) (places_in a.precondition bound ++ effect_places a.effect bound) places).1 in
    let parts = flat_parts (unknown_at s) (places_in a.precondition bound) (effect_places a.effect bound) inner in
    let v = giving a.parameters os [] in
    let covers = covers_given names a.parameters os [] [] len known (covers_nothing names) in
    let read = formula_known s names fit (constants_are_objects d p) (fitting_are_objects d p) a.precondition bound v covers parts.0 in
    let spoken = effect_known s names fit (constants_are_objects d p) (fitting_are_objects d p) a.effect bound v covers parts.1 in (
      λ g c. all_found (is_known (task_of d p)) (formula_atoms fit a.precondition v) read g c,
      λ g c. all_found (is_known (task_of d p)) (map atom_of (effect_atoms fit a.effect v)) (list_all-map (is_known (task_of d p)) atom_of (effect_atoms fit a.effect v) ∙ spoken) g c,
    )

-- what is said in `:init`, the goal and the metric, each part apart
problem_parts : (d : DomainValue) (p : ProblemValue) → IsLinked d p → (flat_map (unknown_at (in_problem d p)) (flat_map init_places p.init) ≡ []) × (flat_map (unknown_at (in_problem d p)) (places_in p.goal []) ≡ [])
problem_parts d p linked =
    let s = in_problem d p in
    let before_metric = (flat_parts (unknown_at s) (flat_map init_places p.init ++ places_in p.goal []) (metric_places p.metric) (knows_names d p linked).1).0 in
    flat_parts (unknown_at s) (flat_map init_places p.init) (places_in p.goal []) before_metric

pub goal_is_known : (d : DomainValue) (p : ProblemValue) → IsLinked d p → GoalIsKnown (task_of d p)
goal_is_known d p linked g c =
    let names = map item_of (objects_of d p) in
    all_found (is_known (task_of d p)) (formula_atoms (fitting_names (task_of d p)) p.goal [])
    (formula_known (in_problem d p) names (fitting_names (task_of d p)) (λ n h. h) (fitting_are_objects d p) p.goal [] [] (covers_nothing names) (problem_parts d p linked).1) g c

-- names that stand as terms are objects
names_known : (s : Setting) (ns : List Name) → flat_map (unknown_term s []) (map name ns) ≡ [] → list_all (is_in (map item_of s.objects)) ns ≡ true
names_known s [] h = refl
names_known s (n ∷ ns) h =
    let parts = nil_parts (unknown_term s [] (name n)) (flat_map (unknown_term s []) (map name ns)) h in
    and_both (is_in (map item_of s.objects) n) (list_all (is_in (map item_of s.objects)) ns) (no_word (is_in (map item_of s.objects) n) n parts.0) (names_known s ns parts.1)

fact_known : (d : DomainValue) (p : ProblemValue) (g : GroundValue) → flat_map (unknown_at (in_problem d p)) (init_places (holds g)) ≡ [] → is_known (task_of d p) g ≡ true
fact_known d p g h =
    let s = in_problem d p in
    let parts = atom_names s [] (ground_atom g) (one_place s (at [] (says (ground_atom g))) [] h).0 in
    and_both (is_in (map symbol_of d.predicates) g.name) (list_all (is_in (map item_of (objects_of d p))) g.objects) parts.0 (names_known s g.objects parts.1)

-- each atom that holds at first is said in `:init`
facts_known : (d : DomainValue) (p : ProblemValue) (is : List InitValue) → flat_map (unknown_at (in_problem d p)) (flat_map init_places is) ≡ [] → (g : GroundValue) → Contains (filter_map fact_in is) g → is_known (task_of d p) g ≡ true
facts_known d p [] h g c = absurd (omega (arith, c.1))
facts_known d p (holds f ∷ is) h g (zero, low, same) =
    subst (λ k. is_known (task_of d p) k ≡ true) same (fact_known d p f (flat_parts (unknown_at (in_problem d p)) (init_places (holds f)) (flat_map init_places is) h).0)
facts_known d p (holds f ∷ is) h g (suc i, low, same) =
    facts_known d p is (flat_parts (unknown_at (in_problem d p)) (init_places (holds f)) (flat_map init_places is) h).1 g (i, omega arith, same)
facts_known d p (fails f ∷ is) h g c = facts_known d p is (flat_parts (unknown_at (in_problem d p)) (init_places (fails f)) (flat_map init_places is) h).1 g c
facts_known d p (value f n ∷ is) h g c = facts_known d p is (flat_parts (unknown_at (in_problem d p)) (init_places (value f n)) (flat_map init_places is) h).1 g c

pub initial_is_known : (d : DomainValue) (p : ProblemValue) → IsLinked d p → InitialIsKnown (task_of d p)
initial_is_known d p linked g c = facts_known d p p.init (problem_parts d p linked).0 g c

cost_known : (d : DomainValue) (p : ProblemValue) (g : GroundValue) (n : ℕ) → flat_map (unknown_at (in_problem d p)) (init_places (value g n)) ≡ [] → is_known_call (task_of d p) g ≡ true
cost_known d p g n h =
    let s = in_problem d p in
    let declared = is_in (map symbol_of (function_signatures d)) g.name in
    let parts = nil_parts (word_if (not declared) g.name) (flat_map (unknown_term s []) (map name g.objects)) (one_place s (at [] (calls (ground_call g))) (at [] (counts g.name n) ∷ []) h).0 in
    and_both declared (list_all (is_in (map item_of (objects_of d p))) g.objects) (no_word declared g.name parts.0) (names_known s g.objects parts.1)

-- each cost is given in `:init`
costs_known : (d : DomainValue) (p : ProblemValue) (is : List InitValue) → flat_map (unknown_at (in_problem d p)) (flat_map init_places is) ≡ [] → (g : GroundValue) (n : ℕ) → Contains (filter_map cost_in is) (g, n) → is_known_call (task_of d p) g ≡ true
costs_known d p [] h g n c = absurd (omega (arith, c.1))
costs_known d p (value f m ∷ is) h g n (zero, low, same) =
    subst (λ (e : GroundValue × ℕ). is_known_call (task_of d p) e.0 ≡ true) same (cost_known d p f m (flat_parts (unknown_at (in_problem d p)) (init_places (value f m)) (flat_map init_places is) h).0)
costs_known d p (value f m ∷ is) h g n (suc i, low, same) =
    costs_known d p is (flat_parts (unknown_at (in_problem d p)) (init_places (value f m)) (flat_map init_places is) h).1 g n (i, omega arith, same)
costs_known d p (holds f ∷ is) h g n c = costs_known d p is (flat_parts (unknown_at (in_problem d p)) (init_places (holds f)) (flat_map init_places is) h).1 g n c
costs_known d p (fails f ∷ is) h g n c = costs_known d p is (flat_parts (unknown_at (in_problem d p)) (init_places (fails f)) (flat_map init_places is) h).1 g n c

pub costs_are_known : (d : DomainValue) (p : ProblemValue) → IsLinked d p → CostsAreKnown (task_of d p)
costs_are_known d p linked g n c = costs_known d p p.init (problem_parts d p linked).0 g n c
