-- Valuations: what variables stand for, and what holds or counts under all of them (own).
use Rattle.std.specs.Prelude.{ℕ, Bool, cond, List, [], ◌∷◌, map, sum_by, bytes_eq}
use Rattle.std.specs.List.{list_any, list_all, flat_map}
use Rattle.pddl_formula.specs.Terms.{TermValue, AtomValue, name, variable}
use Rattle.pddl_formula.specs.TypedLists.{TypedValue}
use Rattle.pddl_effect.specs.Effects.{FunctionTermValue}
use Rattle.pddl_problem.specs.Inits.{GroundValue}
use Rattle.pddl_task.specs.Names.{Name}

-- ---- one valuation

-- pairs of a variable and an object; the first match counts
abbrev pub Valuation : Type 0
Valuation = List (Name × Name)

abbrev pub object_of : Valuation → Name → Name
object_of [] x = []
object_of (e ∷ es) x = cond (bytes_eq x e.0) e.1 (object_of es x)

-- the object that a term stands for
abbrev pub object_at : Valuation → TermValue → Name
object_at v (name n) = n
object_at v (variable x) = object_of v x

-- the ground atom that an atom stands for
abbrev pub grounded : Valuation → AtomValue → GroundValue
grounded v a = record { name = a.predicate; objects = map (object_at v) a.terms }

-- the function of objects that a function term stands for
abbrev pub grounded_call : Valuation → FunctionTermValue → GroundValue
grounded_call v f = record { name = f.function; objects = map (object_at v) f.terms }

-- variables are given objects one after another, as an action's parameters are
abbrev pub giving : List TypedValue → List Name → Valuation → Valuation
giving (x ∷ xs) (o ∷ os) v = giving xs os ((x.item, o) ∷ v)
giving _ _ v = v

-- ---- all that give variables fitting objects; `fit` says which objects fit a type

-- some valuation that gives the variables fitting objects passes a test
abbrev pub some_valuation : (List Name → List Name) → List TypedValue → (Valuation → Bool) → Valuation → Bool
some_valuation fit [] test v = test v
some_valuation fit (x ∷ xs) test v = list_any (λ o. some_valuation fit xs test ((x.item, o) ∷ v)) (fit x.of)

-- every one passes it
abbrev pub every_valuation : (List Name → List Name) → List TypedValue → (Valuation → Bool) → Valuation → Bool
every_valuation fit [] test v = test v
every_valuation fit (x ∷ xs) test v = list_all (λ o. every_valuation fit xs test ((x.item, o) ∷ v)) (fit x.of)

-- a number summed over all of them
abbrev pub sum_valuations : (List Name → List Name) → List TypedValue → (Valuation → ℕ) → Valuation → ℕ
sum_valuations fit [] amount v = amount v
sum_valuations fit (x ∷ xs) amount v = sum_by (λ o. sum_valuations fit xs amount ((x.item, o) ∷ v)) (fit x.of)

-- what is listed under each of them, one after another
abbrev pub over_valuations : {X : Type 0} → (List Name → List Name) → List TypedValue → (Valuation → List X) → Valuation → List X
over_valuations fit [] listed v = listed v
over_valuations fit (x ∷ xs) listed v = flat_map (λ o. over_valuations fit xs listed ((x.item, o) ∷ v)) (fit x.of)
