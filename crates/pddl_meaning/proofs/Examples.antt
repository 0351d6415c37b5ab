-- Worked examples, computed from the definitions: what the steps of a small task read, add, delete and cost (own).
use Rattle.std.proofs.Common.{◌≡◌, true, false, List, [], ◌∷◌, filter, refl, codes}
use Rattle.std.specs.List.{list_any}
use Rattle.pddl_formula.specs.Terms.{AtomValue, variable}
use Rattle.pddl_formula.specs.TypedLists.{TypedValue}
use Rattle.pddl_formula.specs.Formulas.{FormulaValue, atom, negation, conjunction, existential, formulas_of}
use Rattle.pddl_effect.specs.Effects as effects
use Rattle.pddl_effect.specs.Effects.{EffectValue, conditional, addition, deletion, increase, number, function, effects_of}
use Rattle.pddl_domain.specs.Actions.{ActionValue}
use Rattle.pddl_problem.specs.Inits.{GroundValue}
use Rattle.pddl_task.specs.Names.{Name}
use Rattle.pddl_task.specs.Faults.{same_ground}
use Rattle.pddl_task.specs.Tasks.{TaskValue}
use Rattle.pddl_meaning.specs.Worlds.{Atoms}
use Rattle.pddl_happenings.specs.Steps.{Step}
use Rattle.pddl_meaning.specs.Steps.{step_of}

-- ---- the task

abbrev a : Name
a = codes "a"

abbrev b : Name
b = codes "b"

abbrev x : Name
x = codes "x"

abbrev y : Name
y = codes "y"

abbrev lamp : Name
lamp = codes "lamp"

abbrev typed : Name → Name → TypedValue
typed item type = record { item = item; of = type ∷ [] }

abbrev of_x : Name → AtomValue
of_x p = record { predicate = p; terms = variable x ∷ [] }

abbrev on : Name → GroundValue
on o = record { name = codes "on"; objects = o ∷ [] }

abbrev ok : Name → GroundValue
ok o = record { name = codes "ok"; objects = o ∷ [] }

abbrev price : Name → GroundValue
price o = record { name = codes "price"; objects = o ∷ [] }

abbrev price_of_x : EffectValue
price_of_x = increase (function (record { function = codes "price"; terms = variable x ∷ [] }))

-- an action on lamps `?x`
abbrev on_lamp : Name → FormulaValue → EffectValue → ActionValue
on_lamp n f e = record { name = n; parameters = typed x lamp ∷ []; precondition = f; effect = e }

abbrev everywhere : EffectValue → ActionValue
everywhere e = record { name = codes "dark"; parameters = []; precondition = existential (typed x lamp ∷ []) (atom (of_x (codes "on"))); effect = e }

abbrev light : ActionValue
light = on_lamp (codes "light") (conjunction (formulas_of (negation (atom (of_x (codes "on"))) ∷ atom (of_x (codes "ok")) ∷ []))) (effects.conjunction (effects_of (addition (of_x (codes "on")) ∷ price_of_x ∷ [])))

abbrev check : ActionValue
check = on_lamp (codes "check") (conjunction (formulas_of [])) (addition (of_x (codes "ok")))

abbrev dark : ActionValue
dark = everywhere (effects.universal (typed x lamp ∷ []) (conditional (atom (of_x (codes "on"))) (deletion (of_x (codes "on")))))

-- a lamp `a` of price 3 and a big lamp `b` of price 4, both ok
abbrev two : TaskValue
two = record {
  objects = typed a lamp ∷ typed b (codes "big") ∷ [];
  types = record { item = lamp; of = codes "object" } ∷ record { item = codes "big"; of = lamp } ∷ [];
  predicates = record { name = codes "on"; parameters = typed x lamp ∷ [] } ∷ record { name = codes "ok"; parameters = typed x lamp ∷ [] } ∷ [];
  functions = record { name = codes "price"; parameters = typed x lamp ∷ [] } ∷ [];
  actions = light ∷ check ∷ dark ∷ [];
  costs = (price a, 3) ∷ (price b, 4) ∷ [];
  initial = ok a ∷ ok b ∷ [];
  goal = conjunction (formulas_of []);
}

-- the set of these atoms
abbrev those : List GroundValue → Atoms
those gs g = list_any (same_ground g) gs

-- which atoms of the task are in a set
abbrev listed : Atoms → List GroundValue
listed s = filter s (on a ∷ on b ∷ ok a ∷ ok b ∷ [])

abbrev light_of : Name → Step GroundValue
light_of o = step_of two light (o ∷ [])

abbrev darken : Step GroundValue
darken = step_of two dark []

-- ---- what steps read

light_reads : listed (light_of a).reads ≡ on a ∷ ok a ∷ []
light_reads = refl

dark_reads : listed darken.reads ≡ on a ∷ on b ∷ []
dark_reads = refl

check_reads : listed (step_of two check (a ∷ [])).reads ≡ []
check_reads = refl

-- ---- when they may be executed

light_is_ready : (light_of a).ready (those two.initial) ≡ true
light_is_ready = refl

light_twice : (light_of a).ready (those (on a ∷ ok a ∷ [])) ≡ false
light_twice = refl

dark_at_first : darken.ready (those two.initial) ≡ false
dark_at_first = refl

-- ---- what fires

dark_adds_nothing : listed (darken.adds (those (on a ∷ ok b ∷ []))) ≡ []
dark_adds_nothing = refl

dark_deletes_nothing : listed (darken.dels (those two.initial)) ≡ []
dark_deletes_nothing = refl

dark_deletes_what_is_on : listed (darken.dels (those (on a ∷ ok b ∷ []))) ≡ on a ∷ []
dark_deletes_what_is_on = refl

light_adds : listed ((light_of b).adds (those two.initial)) ≡ on b ∷ []
light_adds = refl

-- ---- what they cost

light_costs : (light_of b).cost (those two.initial) ≡ 4
light_costs = refl

dark_costs : darken.cost (those (on a ∷ [])) ≡ 0
dark_costs = refl

-- increases under `when` and `forall`: a lamp that is on costs its price
abbrev dark_by_price : Step GroundValue
dark_by_price = step_of two (everywhere (effects.universal (typed x lamp ∷ []) (conditional (atom (of_x (codes "on"))) (effects.conjunction (effects_of (deletion (of_x (codes "on")) ∷ price_of_x ∷ [])))))) []

both_on_cost : dark_by_price.cost (those (on a ∷ on b ∷ [])) ≡ 7
both_on_cost = refl

one_on_costs : dark_by_price.cost (those (on a ∷ [])) ≡ 3
one_on_costs = refl

-- each valuation counts, equal amounts too
abbrev dark_by_pairs : Step GroundValue
dark_by_pairs = step_of two (everywhere (effects.universal (typed x lamp ∷ typed y lamp ∷ []) (increase (number 1000000000)))) []

pairs_cost : dark_by_pairs.cost (those (on a ∷ [])) ≡ 4
pairs_cost = refl

-- a `when` that does not fire costs nothing
abbrev pay : Step GroundValue
pay = step_of two (on_lamp (codes "pay") (conjunction (formulas_of [])) (conditional (atom (of_x (codes "on"))) (increase (number 5000000000)))) (a ∷ [])

paid : pay.cost (those (on a ∷ [])) ≡ 5
paid = refl

unpaid : pay.cost (those (on b ∷ [])) ≡ 0
unpaid = refl

pay_reads : listed pay.reads ≡ on a ∷ []
pay_reads = refl

-- an object of the type alone: `b` fits lamps, `a` does not fit big lamps
abbrev big_on : Step GroundValue
big_on = step_of two (record light { parameters = []; precondition = existential (typed x (codes "big") ∷ []) (atom (of_x (codes "on"))) }) []

big_reads : listed big_on.reads ≡ on b ∷ []
big_reads = refl
