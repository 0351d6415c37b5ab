-- Worked examples, computed from the definitions: what quantifiers and equalities become (own).
use Rattle.std.proofs.Common.{◌≡◌, ℕ, true, false, cond, List, [], ◌∷◌, map, refl, codes}
use Rattle.pddl_formula.specs.Terms.{variable, name}
use Rattle.pddl_formula.specs.TypedLists.{TypedValue}
use Rattle.pddl_formula.specs.Formulas as formulas
use Rattle.pddl_formula.specs.Formulas.{FormulaValue}
use Rattle.pddl_task.specs.Names.{Name, is_in}
use Rattle.pddl_compiled.specs.Compiled.{ConditionValue, fixed, held, known, atom, existential, universal}
use Rattle.pddl_compiled.specs.Tables.{Tables}
use Rattle.pddl_compiled.specs.Compiler.{condition_of}

abbrev x : Name
x = codes "x"

abbrev y : Name
y = codes "y"

abbrev z : Name
z = codes "z"

-- three objects: all are of a type `any`, the last one is of a type `one`, and none is of a type `none`
abbrev ranged : List Name → List ℕ
ranged types = cond (is_in types (codes "any")) (0 ∷ 1 ∷ 2 ∷ []) (cond (is_in types (codes "one")) (2 ∷ []) [])

abbrev tables : Tables
tables = record { predicates = codes "at" ∷ codes "on" ∷ []; functions = []; objects = codes "a" ∷ codes "b" ∷ codes "c" ∷ []; range = ranged }

abbrev typed : Name → Name → TypedValue
typed v t = record { item = v; of = t ∷ [] }

abbrev any : Name → TypedValue
any v = typed v (codes "any")

abbrev one : Name → TypedValue
one v = typed v (codes "one")

abbrev none : Name → TypedValue
none v = typed v (codes "none")

abbrev on : List Name → FormulaValue
on vs = formulas.atom (record { predicate = codes "on"; terms = map variable vs })

abbrev made : FormulaValue → ConditionValue
made f = condition_of tables f []

abbrev all : List ℕ
all = 0 ∷ 1 ∷ 2 ∷ []

no_variables : made (formulas.universal [] (on [])) ≡ atom 1 []
no_variables = refl

-- a variable over one object is that object
one_object : made (formulas.existential (one x ∷ []) (on (x ∷ []))) ≡ atom 1 (fixed 2 ∷ [])
one_object = refl

-- behind a variable over no object nothing is compiled
no_object : made (formulas.universal (none x ∷ any y ∷ []) (on (x ∷ y ∷ []))) ≡ universal [] (known true)
no_object = refl

three_in_turn : made (formulas.existential (any x ∷ one y ∷ any z ∷ []) (on (x ∷ y ∷ z ∷ []))) ≡ existential all (existential all (atom 1 (held 1 ∷ fixed 2 ∷ held 0 ∷ [])))
three_in_turn = refl

-- an inner variable hides an outer one
hidden : made (formulas.existential (any x ∷ []) (formulas.universal (any x ∷ []) (on (x ∷ [])))) ≡ existential all (universal all (atom 1 (held 0 ∷ [])))
hidden = refl

hidden_by_one : made (formulas.existential (any x ∷ []) (formulas.universal (one x ∷ []) (on (x ∷ [])))) ≡ existential all (atom 1 (fixed 2 ∷ []))
hidden_by_one = refl

-- two names are equal where they are the same, also where they are no objects
two_unknown : made (formulas.equal (name (codes "p")) (name (codes "q"))) ≡ known false
two_unknown = refl
