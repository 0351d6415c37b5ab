-- A condition means what the formula means that it was compiled from, and a change what the effect does.
use Rattle.std.proofs.Common.{◌≡◌, ℕ, suc, ◌+◌, Bool, true, false, not, ◌&&◌, ◌||◌, cond, List, [], ◌∷◌, map, refl, sym, ap, ◌∙◌, arith, eqb, subst, get_or, bytes_eq}
use Rattle.std.specs.Prelude.{Contains, sum_by}
use Rattle.std.specs.List.{list_any, list_all}
use Rattle.std.proofs.lemmas.List.Sums.{sum_by-cons}
use Rattle.pddl_formula.specs.Terms.{TermValue, name, variable}
use Rattle.pddl_formula.specs.Terms as terms
use Rattle.pddl_formula.specs.TypedLists.{TypedValue}
use Rattle.pddl_formula.specs.Formulas as formulas
use Rattle.pddl_formula.specs.Formulas.{FormulaValue, FormulaValues}
use Rattle.pddl_effect.specs.Effects as effects
use Rattle.pddl_effect.specs.Effects.{AmountValue, EffectValue, EffectValues}
use Rattle.pddl_task.specs.Names.{Name, is_in, number_in}
use Rattle.pddl_task.specs.Valuations.{Valuation, object_of, object_at, grounded, some_valuation, grounded_call, every_valuation, sum_valuations}
use Rattle.pddl_task.specs.Known.{formula_atoms, tested, effect_atoms}
use Rattle.pddl_meaning.proofs.SpokenTests.{some_read, some_read_in, some_of, some_of_all, some_fired, some_fired_in, reads_are, spoken_are, fired_are}
use Rattle.pddl_state.specs.Atoms.{AtomValue}
use Rattle.pddl_meaning.specs.Worlds.{no_atoms, World}
use Rattle.pddl_meaning.specs.Truth.{truth, all_true, some_true}
use Rattle.pddl_meaning.specs.Effects.{fired, amount_of, effect_cost, effects_cost}
use Rattle.pddl_compiled.specs.Compiled.{fixed, held, known, existential, universal, both, each, no_changes}
use Rattle.pddl_compiled.specs.CompiledMeaning.{FrameValue, object_in, atom_in, is_true, are_true, is_some_true, some_tested, some_tested_in, some_spoken, some_spoken_in, some_changed, some_changed_in, spent, spent_in}
use Rattle.pddl_compiled.specs.Tables.{Tables, number_atom, named, IsOver}
use Rattle.pddl_compiled.specs.Compiler.{single, framed, ScopeValue, Resolved, object, placed, resolved_from, resolved, place_of, places_of, equal_of, binding, binder_of, bound, nested, condition_of, conditions_of_all, increase_of, change_of, changes_of_all}
use Rattle.pddl_compiled.specs.Frames.{Fits}
use Rattle.pddl_compiled.proofs.Numbers.{apart, apart_left}

-- ---- terms

-- an object and what a term that stands for it is
abbrev pub Stands : Tables → FrameValue → Name → Resolved → Type 0
Stands t env o (object a) = o ≡ a
Stands t env o (placed p) = (object_in env p ≡ number_in t.objects o) × (is_in t.objects o ≡ true)

one_further : (n : ℕ) (env : FrameValue) (k : ℕ) → get_or (n ∷ env) (k + 1) 0 ≡ get_or env k 0
one_further n env k = let e : k + 1 ≡ suc k = omega arith in ap (λ i. get_or (n ∷ env) i 0) e

stands_further : (t : Tables) (n : ℕ) (env : FrameValue) (o : Name) (k : ℕ) (scope : ScopeValue) (x : Name) → Stands t env o (resolved_from k scope x) → Stands t (n ∷ env) o (resolved_from (k + 1) scope x)
stands_further t n env o k [] x h = h
stands_further t n env o k ((y, single m) ∷ scope) x h =
    elim (bytes_eq x y) as (λ b. Stands t env o (cond b (placed (fixed m)) (resolved_from k scope x)) → Stands t (n ∷ env) o (cond b (placed (fixed m)) (resolved_from (k + 1) scope x))) [
      | true ↦ λ s. s
      | false ↦ λ s. stands_further t n env o k scope x s
    ] h
stands_further t n env o k ((y, framed) ∷ scope) x h =
    elim (bytes_eq x y) as (λ b. Stands t env o (cond b (placed (held k)) (resolved_from (k + 1) scope x)) → Stands t (n ∷ env) o (cond b (placed (held (k + 1))) (resolved_from (k + 1 + 1) scope x))) [
      | true ↦ λ s. (one_further n env k ∙ s.0, s.1)
      | false ↦ λ s. stands_further t n env o (k + 1) scope x s
    ] h

variable_stands : (t : Tables) (v : Valuation) (scope : ScopeValue) (env : FrameValue) (x : Name) → Fits t v scope env → Stands t env (object_of v x) (resolved_from 0 scope x)
variable_stands t [] [] env x h = refl
variable_stands t [] (s ∷ scope) env x h = absurd h
variable_stands t (e ∷ es) [] env x h = absurd h
variable_stands t (e ∷ es) ((y, single m) ∷ scope) env x h =
    let rest = variable_stands t es scope env x h.3 in
    subst (λ z. Stands t env (cond (bytes_eq x e.0) e.1 (object_of es x)) (cond (bytes_eq x z) (placed (fixed m)) (resolved_from 0 scope x))) (sym h.0)
    (elim (bytes_eq x e.0) as (λ b. Stands t env (cond b e.1 (object_of es x)) (cond b (placed (fixed m)) (resolved_from 0 scope x))) [ true ↦ (h.1, h.2) | false ↦ rest ])
variable_stands t (e ∷ es) ((y, framed) ∷ scope) [] x h = absurd h
variable_stands t (e ∷ es) ((y, framed) ∷ scope) (n ∷ env) x h =
    let rest = stands_further t n env (object_of es x) 0 scope x (variable_stands t es scope env x h.3) in
    subst (λ z. Stands t (n ∷ env) (cond (bytes_eq x e.0) e.1 (object_of es x)) (cond (bytes_eq x z) (placed (held 0)) (resolved_from 1 scope x))) (sym h.0)
    (elim (bytes_eq x e.0) as (λ b. Stands t (n ∷ env) (cond b e.1 (object_of es x)) (cond b (placed (held 0)) (resolved_from 1 scope x))) [ true ↦ (h.1, h.2) | false ↦ rest ])

term_stands : (t : Tables) (v : Valuation) (scope : ScopeValue) (env : FrameValue) (x : TermValue) → Fits t v scope env → Stands t env (object_at v x) (resolved scope x)
term_stands t v scope env (name o) h = refl
term_stands t v scope env (variable x) h = variable_stands t v scope env x h

place_right : (t : Tables) (env : FrameValue) (o : Name) (r : Resolved) → Stands t env o r → object_in env (place_of t r) ≡ number_in t.objects o
place_right t env o (object a) h = ap (number_in t.objects) (sym h)
place_right t env o (placed p) h = h.0

equal_right : (t : Tables) (s : AtomValue → Bool) (env : FrameValue) (a b : Name) (r q : Resolved) → Stands t env a r → Stands t env b q → is_true s (equal_of t r q) env ≡ bytes_eq a b
equal_right t s env a b (object c) (object d) h k = ap (λ o. bytes_eq o d) (sym h) ∙ ap (λ o. bytes_eq a o) (sym k)
equal_right t s env a b (object c) (placed q) h k =
    ap (λ n. eqb (number_in t.objects c) n) k.0 ∙ (ap (λ o. eqb (number_in t.objects o) (number_in t.objects b)) (sym h) ∙ apart t.objects a b k.1)
equal_right t s env a b (placed p) q h k =
    ap (λ n. eqb n (object_in env (place_of t q))) h.0 ∙ (ap (λ n. eqb (number_in t.objects a) n) (place_right t env b q k) ∙ apart_left t.objects a b h.1)

-- ---- lists of objects

any_mapped : {X Y : Type 0} (f : X → Y) (q : Y → Bool) (r : X → Bool) (xs : List X) → ((h : X) → Contains xs h → q (f h) ≡ r h) → list_any q (map f xs) ≡ list_any r xs
any_mapped f q r [] same = refl
any_mapped f q r (x ∷ xs) same =
    let head : q (f x) ≡ r x = same x (0, omega arith, refl) in
    let tail : list_any q (map f xs) ≡ list_any r xs = any_mapped f q r xs (λ h c. same h (suc c.0, omega (arith, c.1), c.2)) in
    cc

all_mapped : {X Y : Type 0} (f : X → Y) (q : Y → Bool) (r : X → Bool) (xs : List X) → ((h : X) → Contains xs h → q (f h) ≡ r h) → list_all q (map f xs) ≡ list_all r xs
all_mapped f q r [] same = refl
all_mapped f q r (x ∷ xs) same =
    let head : q (f x) ≡ r x = same x (0, omega arith, refl) in
    let tail : list_all q (map f xs) ≡ list_all r xs = all_mapped f q r xs (λ h c. same h (suc c.0, omega (arith, c.1), c.2)) in
    cc

sum_mapped : {X Y : Type 0} (f : X → Y) (q : Y → ℕ) (r : X → ℕ) (xs : List X) → ((h : X) → Contains xs h → q (f h) ≡ r h) → sum_by q (map f xs) ≡ sum_by r xs
sum_mapped f q r [] same = refl
sum_mapped f q r (x ∷ xs) same =
    let head : q (f x) ≡ r x = same x (0, omega arith, refl) in
    let tail : sum_by q (map f xs) ≡ sum_by r xs = sum_mapped f q r xs (λ h c. same h (suc c.0, omega (arith, c.1), c.2)) in
    sum_by-cons q (f x) (map f xs) ∙ (ap (λ n. n + sum_by q (map f xs)) head ∙ ap (λ n. r x + n) tail) ∙ sym (sum_by-cons r x xs)

or_nothing : (a : Bool) → a ≡ (a || false)
or_nothing true = refl
or_nothing false = refl

and_nothing : (a : Bool) → a ≡ (a && true)
and_nothing true = refl
and_nothing false = refl

one_sum : {X : Type 0} (q : X → ℕ) (x : X) → q x ≡ sum_by q (x ∷ [])
one_sum q x = let e : q x ≡ q x + 0 = omega arith in e ∙ sym (sum_by-cons q x [])

module _ (w : World) (t : Tables) (price : AtomValue → ℕ) (over : IsOver t w price) where
  places_right : (v : Valuation) (scope : ScopeValue) (env : FrameValue) (xs : List TermValue) → Fits t v scope env → map (object_in env) (places_of t scope xs) ≡ map (number_in t.objects) (map (object_at v) xs)
  places_right v scope env [] h = refl
  places_right v scope env (x ∷ xs) h =
      let head : object_in env (place_of t (resolved scope x)) ≡ number_in t.objects (object_at v x) = place_right t env (object_at v x) (resolved scope x) (term_stands t v scope env x h) in
      let tail : map (object_in env) (places_of t scope xs) ≡ map (number_in t.objects) (map (object_at v) xs) = places_right v scope env xs h in
      cc

  atom_right : (v : Valuation) (scope : ScopeValue) (env : FrameValue) (a : terms.AtomValue) → Fits t v scope env → atom_in env (number_in t.predicates a.predicate) (places_of t scope a.terms) ≡ number_atom t.predicates t.objects (grounded v a)
  atom_right v scope env a h = λ i. record { predicate = number_in t.predicates a.predicate; args = places_right v scope env a.terms h i }

  pub call_right : (v : Valuation) (scope : ScopeValue) (env : FrameValue) (f : effects.FunctionTermValue) → Fits t v scope env → atom_in env (number_in t.functions f.function) (places_of t scope f.terms) ≡ number_atom t.functions t.objects (grounded_call v f)
  call_right v scope env f h = λ i. record { predicate = number_in t.functions f.function; args = places_right v scope env f.terms h i }

  -- a quantifier of one variable more: over the objects that fit it, by the objects' numbers
  module _ {K Y : Type 0} (node : List ℕ → K → K) (nothing : K) (F : K → FrameValue → Y) (body : ScopeValue → K) where
    -- what is under a variable, where its objects are given by numbers
    under : (scope : ScopeValue) (env : FrameValue) (x : TypedValue) (xs : List TypedValue) → F (nested node nothing t (x ∷ xs) body scope) env ≡ F (bound node nothing body scope (binding x.item (map (number_in t.objects) (w.fit x.of)) (binder_of t.range xs))) env
    under scope env x xs = ap (λ r. F (bound node nothing body scope (binding x.item r (binder_of t.range xs))) env) (over.ranges x.of)

  module _ {K : Type 0} (node : List ℕ → K → K) (nothing : K) (F : K → FrameValue → Bool) (body : ScopeValue → K) (q : Valuation → Bool) (right : (v : Valuation) (scope : ScopeValue) (env : FrameValue) → Fits t v scope env → F (body scope) env ≡ q v) where
    any_under : ((range : List ℕ) (c : K) (env : FrameValue) → F (node range c) env ≡ list_any (λ o. F c (o ∷ env)) range) → (x : TypedValue) (xs : List TypedValue) (v : Valuation) (scope : ScopeValue) (env : FrameValue) → Fits t v scope env
        → ((u : Valuation) (sc : ScopeValue) (en : FrameValue) → Fits t u sc en → F (nested node nothing t xs body sc) en ≡ some_valuation w.fit xs q u)
        → (os : List Name) → ((o : Name) → Contains os o → is_in t.objects o ≡ true)
        → F (bound node nothing body scope (binding x.item (map (number_in t.objects) os) (binder_of t.range xs))) env ≡ list_any (λ o. some_valuation w.fit xs q ((x.item, o) ∷ v)) os
    any_under at x xs v scope env h next [] k = at [] nothing env
    any_under at x xs v scope env h next (o ∷ []) k =
        next ((x.item, o) ∷ v) ((x.item, single (number_in t.objects o)) ∷ scope) env (refl, refl, k o (0, omega arith, refl), h) ∙ or_nothing (some_valuation w.fit xs q ((x.item, o) ∷ v))
    any_under at x xs v scope env h next (o ∷ p ∷ os) k =
        at (map (number_in t.objects) (o ∷ p ∷ os)) (nested node nothing t xs body ((x.item, framed) ∷ scope)) env
        ∙ any_mapped (number_in t.objects) (λ n. F (nested node nothing t xs body ((x.item, framed) ∷ scope)) (n ∷ env)) (λ o. some_valuation w.fit xs q ((x.item, o) ∷ v)) (o ∷ p ∷ os)
        (λ e c. next ((x.item, e) ∷ v) ((x.item, framed) ∷ scope) (number_in t.objects e ∷ env) (refl, refl, k e c, h))

    pub any_nested : ((range : List ℕ) (c : K) (env : FrameValue) → F (node range c) env ≡ list_any (λ o. F c (o ∷ env)) range) → (xs : List TypedValue) (v : Valuation) (scope : ScopeValue) (env : FrameValue) → Fits t v scope env → F (nested node nothing t xs body scope) env ≡ some_valuation w.fit xs q v
    any_nested at [] v scope env h = right v scope env h
    any_nested at (x ∷ xs) v scope env h =
        under node nothing F body scope env x xs ∙ any_under at x xs v scope env h (λ u sc en k. any_nested at xs u sc en k) (w.fit x.of) (over.fit x.of)

    all_under : ((range : List ℕ) (c : K) (env : FrameValue) → F (node range c) env ≡ list_all (λ o. F c (o ∷ env)) range) → (x : TypedValue) (xs : List TypedValue) (v : Valuation) (scope : ScopeValue) (env : FrameValue) → Fits t v scope env
        → ((u : Valuation) (sc : ScopeValue) (en : FrameValue) → Fits t u sc en → F (nested node nothing t xs body sc) en ≡ every_valuation w.fit xs q u)
        → (os : List Name) → ((o : Name) → Contains os o → is_in t.objects o ≡ true)
        → F (bound node nothing body scope (binding x.item (map (number_in t.objects) os) (binder_of t.range xs))) env ≡ list_all (λ o. every_valuation w.fit xs q ((x.item, o) ∷ v)) os
    all_under at x xs v scope env h next [] k = at [] nothing env
    all_under at x xs v scope env h next (o ∷ []) k =
        next ((x.item, o) ∷ v) ((x.item, single (number_in t.objects o)) ∷ scope) env (refl, refl, k o (0, omega arith, refl), h) ∙ and_nothing (every_valuation w.fit xs q ((x.item, o) ∷ v))
    all_under at x xs v scope env h next (o ∷ p ∷ os) k =
        at (map (number_in t.objects) (o ∷ p ∷ os)) (nested node nothing t xs body ((x.item, framed) ∷ scope)) env
        ∙ all_mapped (number_in t.objects) (λ n. F (nested node nothing t xs body ((x.item, framed) ∷ scope)) (n ∷ env)) (λ o. every_valuation w.fit xs q ((x.item, o) ∷ v)) (o ∷ p ∷ os)
        (λ e c. next ((x.item, e) ∷ v) ((x.item, framed) ∷ scope) (number_in t.objects e ∷ env) (refl, refl, k e c, h))

    all_nested : ((range : List ℕ) (c : K) (env : FrameValue) → F (node range c) env ≡ list_all (λ o. F c (o ∷ env)) range) → (xs : List TypedValue) (v : Valuation) (scope : ScopeValue) (env : FrameValue) → Fits t v scope env → F (nested node nothing t xs body scope) env ≡ every_valuation w.fit xs q v
    all_nested at [] v scope env h = right v scope env h
    all_nested at (x ∷ xs) v scope env h =
        under node nothing F body scope env x xs ∙ all_under at x xs v scope env h (λ u sc en k. all_nested at xs u sc en k) (w.fit x.of) (over.fit x.of)

  module _ {K : Type 0} (node : List ℕ → K → K) (nothing : K) (F : K → FrameValue → ℕ) (body : ScopeValue → K) (q : Valuation → ℕ) (right : (v : Valuation) (scope : ScopeValue) (env : FrameValue) → Fits t v scope env → F (body scope) env ≡ q v) where
    sum_under : ((range : List ℕ) (c : K) (env : FrameValue) → F (node range c) env ≡ sum_by (λ o. F c (o ∷ env)) range) → (x : TypedValue) (xs : List TypedValue) (v : Valuation) (scope : ScopeValue) (env : FrameValue) → Fits t v scope env
        → ((u : Valuation) (sc : ScopeValue) (en : FrameValue) → Fits t u sc en → F (nested node nothing t xs body sc) en ≡ sum_valuations w.fit xs q u)
        → (os : List Name) → ((o : Name) → Contains os o → is_in t.objects o ≡ true)
        → F (bound node nothing body scope (binding x.item (map (number_in t.objects) os) (binder_of t.range xs))) env ≡ sum_by (λ o. sum_valuations w.fit xs q ((x.item, o) ∷ v)) os
    sum_under at x xs v scope env h next [] k = at [] nothing env
    sum_under at x xs v scope env h next (o ∷ []) k =
        next ((x.item, o) ∷ v) ((x.item, single (number_in t.objects o)) ∷ scope) env (refl, refl, k o (0, omega arith, refl), h) ∙ one_sum (λ o. sum_valuations w.fit xs q ((x.item, o) ∷ v)) o
    sum_under at x xs v scope env h next (o ∷ p ∷ os) k =
        at (map (number_in t.objects) (o ∷ p ∷ os)) (nested node nothing t xs body ((x.item, framed) ∷ scope)) env
        ∙ sum_mapped (number_in t.objects) (λ n. F (nested node nothing t xs body ((x.item, framed) ∷ scope)) (n ∷ env)) (λ o. sum_valuations w.fit xs q ((x.item, o) ∷ v)) (o ∷ p ∷ os)
        (λ e c. next ((x.item, e) ∷ v) ((x.item, framed) ∷ scope) (number_in t.objects e ∷ env) (refl, refl, k e c, h))

    sum_nested : ((range : List ℕ) (c : K) (env : FrameValue) → F (node range c) env ≡ sum_by (λ o. F c (o ∷ env)) range) → (xs : List TypedValue) (v : Valuation) (scope : ScopeValue) (env : FrameValue) → Fits t v scope env → F (nested node nothing t xs body scope) env ≡ sum_valuations w.fit xs q v
    sum_nested at [] v scope env h = right v scope env h
    sum_nested at (x ∷ xs) v scope env h =
        under node nothing F body scope env x xs ∙ sum_under at x xs v scope env h (λ u sc en k. sum_nested at xs u sc en k) (w.fit x.of) (over.fit x.of)

  -- ---- truth

  module _ (s : AtomValue → Bool) where
    mutual
      pub truth_right : (f : FormulaValue) (v : Valuation) (scope : ScopeValue) (env : FrameValue) → Fits t v scope env → is_true s (condition_of t f scope) env ≡ truth w.fit (named t s) f v
      truth_right (formulas.atom a) v scope env h = ap s (atom_right v scope env a h)
      truth_right (formulas.equal x y) v scope env h = equal_right t s env (object_at v x) (object_at v y) (resolved scope x) (resolved scope y) (term_stands t v scope env x h) (term_stands t v scope env y h)
      truth_right (formulas.negation f) v scope env h = ap not (truth_right f v scope env h)
      truth_right (formulas.implication f g) v scope env h =
          let left : is_true s (condition_of t f scope) env ≡ truth w.fit (named t s) f v = truth_right f v scope env h in
          let right : is_true s (condition_of t g scope) env ≡ truth w.fit (named t s) g v = truth_right g v scope env h in
          cc
      truth_right (formulas.conjunction fs) v scope env h = all_true_right fs v scope env h
      truth_right (formulas.disjunction fs) v scope env h = some_true_right fs v scope env h
      truth_right (formulas.existential xs f) v scope env h =
          any_nested existential (known true) (is_true s) (condition_of t f) (truth w.fit (named t s) f) (λ u sc en k. truth_right f u sc en k) (λ range c en. refl) xs v scope env h
      truth_right (formulas.universal xs f) v scope env h =
          all_nested universal (known true) (is_true s) (condition_of t f) (truth w.fit (named t s) f) (λ u sc en k. truth_right f u sc en k) (λ range c en. refl) xs v scope env h

      all_true_right : (fs : FormulaValues) (v : Valuation) (scope : ScopeValue) (env : FrameValue) → Fits t v scope env → are_true s (conditions_of_all t fs scope) env ≡ all_true w.fit (named t s) fs v
      all_true_right formulas.no_formulas v scope env h = refl
      all_true_right (formulas.formula f fs) v scope env h =
          let head : is_true s (condition_of t f scope) env ≡ truth w.fit (named t s) f v = truth_right f v scope env h in
          let tail : are_true s (conditions_of_all t fs scope) env ≡ all_true w.fit (named t s) fs v = all_true_right fs v scope env h in
          cc

      some_true_right : (fs : FormulaValues) (v : Valuation) (scope : ScopeValue) (env : FrameValue) → Fits t v scope env → is_some_true s (conditions_of_all t fs scope) env ≡ some_true w.fit (named t s) fs v
      some_true_right formulas.no_formulas v scope env h = refl
      some_true_right (formulas.formula f fs) v scope env h =
          let head : is_true s (condition_of t f scope) env ≡ truth w.fit (named t s) f v = truth_right f v scope env h in
          let tail : is_some_true s (conditions_of_all t fs scope) env ≡ some_true w.fit (named t s) fs v = some_true_right fs v scope env h in
          cc

  -- ---- what is read

  module _ (test : AtomValue → Bool) where
    equal_not_tested : (r q : Resolved) (env : FrameValue) → some_tested (equal_of t r q) test env ≡ false
    equal_not_tested (object a) (object b) env = refl
    equal_not_tested (object a) (placed q) env = refl
    equal_not_tested (placed p) q env = refl

    mutual
      tested_same : (f : FormulaValue) (v : Valuation) (scope : ScopeValue) (env : FrameValue) → Fits t v scope env → some_tested (condition_of t f scope) test env ≡ some_read w.fit f (named t test) v
      tested_same (formulas.atom a) v scope env h = ap test (atom_right v scope env a h)
      tested_same (formulas.equal x y) v scope env h = equal_not_tested (resolved scope x) (resolved scope y) env
      tested_same (formulas.negation f) v scope env h = tested_same f v scope env h
      tested_same (formulas.implication f g) v scope env h =
          let left : some_tested (condition_of t f scope) test env ≡ some_read w.fit f (named t test) v = tested_same f v scope env h in
          let right : some_tested (condition_of t g scope) test env ≡ some_read w.fit g (named t test) v = tested_same g v scope env h in
          cc
      tested_same (formulas.conjunction fs) v scope env h = tested_in_right fs v scope env h
      tested_same (formulas.disjunction fs) v scope env h = tested_in_right fs v scope env h
      tested_same (formulas.existential xs f) v scope env h =
          any_nested existential (known true) (λ c en. some_tested c test en) (condition_of t f) (some_read w.fit f (named t test)) (λ u sc en k. tested_same f u sc en k) (λ range c en. refl) xs v scope env h
      tested_same (formulas.universal xs f) v scope env h =
          any_nested universal (known true) (λ c en. some_tested c test en) (condition_of t f) (some_read w.fit f (named t test)) (λ u sc en k. tested_same f u sc en k) (λ range c en. refl) xs v scope env h

      tested_in_right : (fs : FormulaValues) (v : Valuation) (scope : ScopeValue) (env : FrameValue) → Fits t v scope env → some_tested_in (conditions_of_all t fs scope) test env ≡ some_read_in w.fit fs (named t test) v
      tested_in_right formulas.no_formulas v scope env h = refl
      tested_in_right (formulas.formula f fs) v scope env h =
          let head : some_tested (condition_of t f scope) test env ≡ some_read w.fit f (named t test) v = tested_same f v scope env h in
          let tail : some_tested_in (conditions_of_all t fs scope) test env ≡ some_read_in w.fit fs (named t test) v = tested_in_right fs v scope env h in
          cc

    pub tested_right : (f : FormulaValue) (v : Valuation) (scope : ScopeValue) (env : FrameValue) → Fits t v scope env → some_tested (condition_of t f scope) test env ≡ list_any (named t test) (formula_atoms w.fit f v)
    tested_right f v scope env h = tested_same f v scope env h ∙ reads_are w.fit (named t test) f v

  module _ (read added deleted : AtomValue → Bool) where
    increase_not_spoken : (a : AmountValue) (scope : ScopeValue) (env : FrameValue) → some_spoken (increase_of t a scope) read added deleted env ≡ false
    increase_not_spoken (effects.number n) scope env = refl
    increase_not_spoken (effects.function f) scope env = refl

    mutual
      spoken_same : (e : EffectValue) (v : Valuation) (scope : ScopeValue) (env : FrameValue) → Fits t v scope env → some_spoken (change_of t e scope) read added deleted env ≡ some_of w.fit e (named t read) (named t added) (named t deleted) v
      spoken_same (effects.conjunction es) v scope env h = spoken_in_right es v scope env h
      spoken_same (effects.universal xs e) v scope env h =
          any_nested each (both no_changes) (λ c en. some_spoken c read added deleted en) (change_of t e) (some_of w.fit e (named t read) (named t added) (named t deleted)) (λ u sc en k. spoken_same e u sc en k) (λ range c en. refl) xs v scope env h
      spoken_same (effects.conditional f e) v scope env h =
          let left : some_tested (condition_of t f scope) read env ≡ some_read w.fit f (named t read) v = tested_same read f v scope env h in
          let right : some_spoken (change_of t e scope) read added deleted env ≡ some_of w.fit e (named t read) (named t added) (named t deleted) v = spoken_same e v scope env h in
          cc
      spoken_same (effects.addition a) v scope env h = ap added (atom_right v scope env a h)
      spoken_same (effects.deletion a) v scope env h = ap deleted (atom_right v scope env a h)
      spoken_same (effects.increase a) v scope env h = increase_not_spoken a scope env

      spoken_in_right : (es : EffectValues) (v : Valuation) (scope : ScopeValue) (env : FrameValue) → Fits t v scope env → some_spoken_in (changes_of_all t es scope) read added deleted env ≡ some_of_all w.fit es (named t read) (named t added) (named t deleted) v
      spoken_in_right effects.no_effects v scope env h = refl
      spoken_in_right (effects.effect e es) v scope env h =
          let head : some_spoken (change_of t e scope) read added deleted env ≡ some_of w.fit e (named t read) (named t added) (named t deleted) v = spoken_same e v scope env h in
          let tail : some_spoken_in (changes_of_all t es scope) read added deleted env ≡ some_of_all w.fit es (named t read) (named t added) (named t deleted) v = spoken_in_right es v scope env h in
          cc

    pub spoken_right : (e : EffectValue) (v : Valuation) (scope : ScopeValue) (env : FrameValue) → Fits t v scope env
        → some_spoken (change_of t e scope) read added deleted env ≡ list_any (tested (named t read) (named t added) (named t deleted)) (effect_atoms w.fit e v)
    spoken_right e v scope env h = spoken_same e v scope env h ∙ spoken_are w.fit (named t read) (named t added) (named t deleted) e v

  -- ---- what fires

  module _ (s added deleted : AtomValue → Bool) where
    increase_changes_nothing : (a : AmountValue) (scope : ScopeValue) (env : FrameValue) → some_changed s (increase_of t a scope) added deleted env ≡ false
    increase_changes_nothing (effects.number n) scope env = refl
    increase_changes_nothing (effects.function f) scope env = refl

    mutual
      changed_same : (e : EffectValue) (v : Valuation) (scope : ScopeValue) (env : FrameValue) → Fits t v scope env → some_changed s (change_of t e scope) added deleted env ≡ some_fired w.fit (named t s) e (named t added) (named t deleted) v
      changed_same (effects.conjunction es) v scope env h = changed_in_right es v scope env h
      changed_same (effects.universal xs e) v scope env h =
          any_nested each (both no_changes) (λ c en. some_changed s c added deleted en) (change_of t e) (some_fired w.fit (named t s) e (named t added) (named t deleted)) (λ u sc en k. changed_same e u sc en k) (λ range c en. refl) xs v scope env h
      changed_same (effects.conditional f e) v scope env h =
          let left : is_true s (condition_of t f scope) env ≡ truth w.fit (named t s) f v = truth_right s f v scope env h in
          let right : some_changed s (change_of t e scope) added deleted env ≡ some_fired w.fit (named t s) e (named t added) (named t deleted) v = changed_same e v scope env h in
          cc
      changed_same (effects.addition a) v scope env h = ap added (atom_right v scope env a h)
      changed_same (effects.deletion a) v scope env h = ap deleted (atom_right v scope env a h)
      changed_same (effects.increase a) v scope env h = increase_changes_nothing a scope env

      changed_in_right : (es : EffectValues) (v : Valuation) (scope : ScopeValue) (env : FrameValue) → Fits t v scope env → some_changed_in s (changes_of_all t es scope) added deleted env ≡ some_fired_in w.fit (named t s) es (named t added) (named t deleted) v
      changed_in_right effects.no_effects v scope env h = refl
      changed_in_right (effects.effect e es) v scope env h =
          let head : some_changed s (change_of t e scope) added deleted env ≡ some_fired w.fit (named t s) e (named t added) (named t deleted) v = changed_same e v scope env h in
          let tail : some_changed_in s (changes_of_all t es scope) added deleted env ≡ some_fired_in w.fit (named t s) es (named t added) (named t deleted) v = changed_in_right es v scope env h in
          cc

    pub changed_right : (e : EffectValue) (v : Valuation) (scope : ScopeValue) (env : FrameValue) → Fits t v scope env
        → some_changed s (change_of t e scope) added deleted env ≡ list_any (tested no_atoms (named t added) (named t deleted)) (fired w.fit (named t s) e v)
    changed_right e v scope env h = changed_same e v scope env h ∙ fired_are w.fit (named t s) (named t added) (named t deleted) e v

  -- ---- what is spent

  module _ (s : AtomValue → Bool) where
    increase_right : (a : AmountValue) (v : Valuation) (scope : ScopeValue) (env : FrameValue) → Fits t v scope env → spent price s (increase_of t a scope) env ≡ amount_of w a v
    increase_right (effects.number n) v scope env h = refl
    increase_right (effects.function f) v scope env h = ap price (call_right v scope env f h) ∙ sym (over.prices (grounded_call v f))

    mutual
      pub spent_right : (e : EffectValue) (v : Valuation) (scope : ScopeValue) (env : FrameValue) → Fits t v scope env → spent price s (change_of t e scope) env ≡ effect_cost w (named t s) e v
      spent_right (effects.conjunction es) v scope env h = spent_in_right es v scope env h
      spent_right (effects.universal xs e) v scope env h =
          sum_nested each (both no_changes) (spent price s) (change_of t e) (effect_cost w (named t s) e) (λ u sc en k. spent_right e u sc en k) (λ range c en. refl) xs v scope env h
      spent_right (effects.conditional f e) v scope env h =
          let left : is_true s (condition_of t f scope) env ≡ truth w.fit (named t s) f v = truth_right s f v scope env h in
          let right : spent price s (change_of t e scope) env ≡ effect_cost w (named t s) e v = spent_right e v scope env h in
          cc
      spent_right (effects.addition a) v scope env h = refl
      spent_right (effects.deletion a) v scope env h = refl
      spent_right (effects.increase a) v scope env h = increase_right a v scope env h

      spent_in_right : (es : EffectValues) (v : Valuation) (scope : ScopeValue) (env : FrameValue) → Fits t v scope env → spent_in price s (changes_of_all t es scope) env ≡ effects_cost w (named t s) es v
      spent_in_right effects.no_effects v scope env h = refl
      spent_in_right (effects.effect e es) v scope env h =
          let head : spent price s (change_of t e scope) env ≡ effect_cost w (named t s) e v = spent_right e v scope env h in
          let tail : spent_in price s (changes_of_all t es scope) env ≡ effects_cost w (named t s) es v = spent_in_right es v scope env h in
          cc
