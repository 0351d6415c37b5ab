-- The condition of a formula and the change of an effect (own).
use Rattle.std.specs.Prelude.{ℕ, ◌+◌, ◌/◌, Bool, true, false, cond, List, [], ◌∷◌, map, bytes_eq}
use Rattle.pddl_formula.specs.Terms.{TermValue, name, variable}
use Rattle.pddl_formula.specs.TypedLists.{TypedValue}
use Rattle.pddl_formula.specs.Formulas as formulas
use Rattle.pddl_formula.specs.Formulas.{FormulaValue, FormulaValues}
use Rattle.pddl_effect.specs.Effects as effects
use Rattle.pddl_effect.specs.Effects.{AmountValue, EffectValue, EffectValues}
use Rattle.pddl_task.specs.Names.{Name, number_in}
use Rattle.pddl_task.specs.Faults.{billion}
use Rattle.pddl_compiled.specs.Compiled.{PlaceValue, fixed, held, ConditionValue, known, atom, equal, negation, implication, conjunction, disjunction, existential, universal, ConditionValues, no_conditions, condition, ChangeValue, both, each, conditional, addition, deletion, increase, increase_by, ChangeValues, no_changes, change}
use Rattle.pddl_compiled.specs.Tables.{Tables}

-- ---- variables in scope

-- A variable that ranges over one object stands for it; any other has a place in the frame.
pub data Slot : Type 0 where
  single : ℕ → Slot
  framed : Slot

-- the variables in scope, the innermost first
abbrev pub ScopeValue : Type 0
ScopeValue = List (Name × Slot)

-- What a term is: an object by its name, or a place.
pub data Resolved : Type 0 where
  object : Name → Resolved
  placed : PlaceValue → Resolved

-- the place of a variable, behind so many places of the frame
abbrev pub place_at : ℕ → Slot → PlaceValue
place_at k (single n) = fixed n
place_at k framed = held k

-- how many places of the frame are passed with it
abbrev pub passed : ℕ → Slot → ℕ
passed k (single n) = k
passed k framed = k + 1

-- What a variable is, behind so many places of the frame; one that is not in scope is the object without a name.
abbrev pub resolved_from : ℕ → ScopeValue → Name → Resolved
resolved_from k [] x = object []
resolved_from k (e ∷ es) x = cond (bytes_eq x e.0) (placed (place_at k e.1)) (resolved_from (passed k e.1) es x)

abbrev pub resolved : ScopeValue → TermValue → Resolved
resolved scope (name o) = object o
resolved scope (variable x) = resolved_from 0 scope x

abbrev pub place_of : Tables → Resolved → PlaceValue
place_of t (object o) = fixed (number_in t.objects o)
place_of t (placed p) = p

abbrev pub places_of : Tables → ScopeValue → List TermValue → List PlaceValue
places_of t scope ts = map (λ x. place_of t (resolved scope x)) ts

-- An equality; that of two names is decided here.
abbrev pub equal_of : Tables → Resolved → Resolved → ConditionValue
equal_of t (object a) (object b) = known (bytes_eq a b)
equal_of t (object a) (placed q) = equal (fixed (number_in t.objects a)) q
equal_of t (placed p) r = equal p (place_of t r)

-- ---- quantifiers

-- What the variables of a quantifier are: their slots, the ranges of those that have a place in the frame, and whether one ranges over
-- no object: then its range is the last, and nothing is looked at behind it.
pub record BinderValue : Type 0 where
  pub slots : List (Name × Slot)
  pub ranges : List (List ℕ)
  pub closed : Bool

abbrev pub binding : Name → List ℕ → BinderValue → BinderValue
binding x [] b = record { slots = []; ranges = [] ∷ []; closed = true }
binding x (o ∷ []) b = record b { slots = (x, single o) ∷ b.slots }
binding x (o ∷ p ∷ os) b = record b { slots = (x, framed) ∷ b.slots; ranges = (o ∷ p ∷ os) ∷ b.ranges }

abbrev pub binder_of : (List Name → List ℕ) → List TypedValue → BinderValue
binder_of range [] = record { slots = []; ranges = []; closed = false }
binder_of range (x ∷ xs) = binding x.item (range x.of) (binder_of range xs)

-- slots are put before a scope one after another
abbrev pub onto : List (Name × Slot) → ScopeValue → ScopeValue
onto [] scope = scope
onto (s ∷ ss) scope = onto ss (s ∷ scope)

-- a node for each range, the first outermost
abbrev pub wrapped : {K : Type 0} → (List ℕ → K → K) → List (List ℕ) → K → K
wrapped node [] c = c
wrapped node (r ∷ rs) c = node r (wrapped node rs c)

-- A quantifier around what a body is in scope of its variables; where it is closed, around what does nothing.
abbrev pub bound : {K : Type 0} → (List ℕ → K → K) → K → (ScopeValue → K) → ScopeValue → BinderValue → K
bound node nothing body scope b = wrapped node b.ranges (cond b.closed nothing (body (onto b.slots scope)))

abbrev pub nested : {K : Type 0} → (List ℕ → K → K) → K → Tables → List TypedValue → (ScopeValue → K) → ScopeValue → K
nested node nothing t xs body scope = bound node nothing body scope (binder_of t.range xs)

-- ---- formulas and effects

abbrev mutual
  pub condition_of : Tables → FormulaValue → ScopeValue → ConditionValue
  condition_of t (formulas.atom a) scope = atom (number_in t.predicates a.predicate) (places_of t scope a.terms)
  condition_of t (formulas.equal x y) scope = equal_of t (resolved scope x) (resolved scope y)
  condition_of t (formulas.negation f) scope = negation (condition_of t f scope)
  condition_of t (formulas.implication f g) scope = implication (condition_of t f scope) (condition_of t g scope)
  condition_of t (formulas.conjunction fs) scope = conjunction (conditions_of_all t fs scope)
  condition_of t (formulas.disjunction fs) scope = disjunction (conditions_of_all t fs scope)
  condition_of t (formulas.existential xs f) scope = nested existential (known true) t xs (condition_of t f) scope
  condition_of t (formulas.universal xs f) scope = nested universal (known true) t xs (condition_of t f) scope

  pub conditions_of_all : Tables → FormulaValues → ScopeValue → ConditionValues
  conditions_of_all t formulas.no_formulas scope = no_conditions
  conditions_of_all t (formulas.formula f fs) scope = condition (condition_of t f scope) (conditions_of_all t fs scope)

abbrev pub increase_of : Tables → AmountValue → ScopeValue → ChangeValue
increase_of t (effects.number n) scope = increase_by (n / billion)
increase_of t (effects.function f) scope = increase (number_in t.functions f.function) (places_of t scope f.terms)

abbrev mutual
  pub change_of : Tables → EffectValue → ScopeValue → ChangeValue
  change_of t (effects.conjunction es) scope = both (changes_of_all t es scope)
  change_of t (effects.universal xs e) scope = nested each (both no_changes) t xs (change_of t e) scope
  change_of t (effects.conditional f e) scope = conditional (condition_of t f scope) (change_of t e scope)
  change_of t (effects.addition a) scope = addition (number_in t.predicates a.predicate) (places_of t scope a.terms)
  change_of t (effects.deletion a) scope = deletion (number_in t.predicates a.predicate) (places_of t scope a.terms)
  change_of t (effects.increase a) scope = increase_of t a scope

  pub changes_of_all : Tables → EffectValues → ScopeValue → ChangeValues
  changes_of_all t effects.no_effects scope = no_changes
  changes_of_all t (effects.effect e es) scope = change (change_of t e scope) (changes_of_all t es scope)
