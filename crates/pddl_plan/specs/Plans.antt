-- Plans, and the items that spell them, in the form of VAL's plan files.
use Rattle.std.specs.Prelude.{◌≡◌, ◌<◌, ℕ, Bool, ◌&&◌, nat_lt, List, [], ◌∷◌, length, map, slice_get, Option, None, option_map}
use Rattle.std.specs.List.{list_all}
use Rattle.pddl_token.specs.declared.token.TokenKind.TheVariants.{Colon}
use Rattle.pddl_token.specs.Trees.{Tree, leaf, node, list_of}
use Rattle.pddl_plan.specs.declared.plan.Plan.{Plan}
use Rattle.pddl_plan.specs.Building.{Building, is_moment}
use Rattle.pddl_token.specs.Names.{is_name}
use Rattle.pddl_token.specs.TreeWords.{SpellsName, SpellsNumber, Each}

-- a step: an action's name and the names of objects
pub record StepValue : Type 0 where
  pub action : List ℕ
  pub objects : List (List ℕ)

-- a step and its moment in billionths
pub record TimedValue : Type 0 where
  pub moment : ℕ
  pub step : StepValue

-- a plan: steps alone, or steps at moments, in file order (VAL)
pub data PlanValue : Type 0 where
  plain : List StepValue → PlanValue
  timed : List TimedValue → PlanValue

-- ---- what each plan of the program is

-- a step has names
abbrev pub is_step : StepValue → Bool
is_step step = is_name step.action && list_all is_name step.objects

-- a moment is a number in range
abbrev pub is_timed : TimedValue → Bool
is_timed s = is_moment s.moment && is_step s.step

-- a timed plan has a step
abbrev pub is_plan : PlanValue → Bool
is_plan (plain steps) = list_all is_step steps
is_plan (timed steps) = nat_lt 0 (length steps) && list_all is_timed steps

-- ---- a plan of the program as a value

-- a step of these names, the action's first
abbrev pub step_of_names : List (List ℕ) → StepValue
step_of_names [] = record { action = []; objects = [] }
step_of_names (name ∷ names) = record { action = name; objects = names }

-- steps, each at its moment
abbrev pub at_moments : List ℕ → List StepValue → List TimedValue
at_moments [] steps = []
at_moments (m ∷ moments) [] = []
at_moments (m ∷ moments) (step ∷ steps) = record { moment = m; step = step } ∷ at_moments moments steps

-- the plan of steps and their moments; without moments it is plain
abbrev pub plan_of : List ℕ → List StepValue → PlanValue
plan_of [] steps = plain steps
plan_of (m ∷ moments) steps = timed (at_moments (m ∷ moments) steps)

-- the steps of a plan in making that are ended
abbrev pub steps_built : Building → List StepValue
steps_built b = map step_of_names b.steps

-- the same at their moments
abbrev pub timed_built : Building → List TimedValue
timed_built b = at_moments b.moments (steps_built b)

-- a plan in making, but for the step that is not ended
abbrev pub built_plan : Building → PlanValue
built_plan b = plan_of b.moments (steps_built b)

-- a plan of the program
abbrev pub plan_view : {A : _} → Plan A → PlanValue
plan_view plan = built_plan plan.parts

-- ---- the steps of a plan

-- in file order
abbrev pub steps_of : PlanValue → List StepValue
steps_of (plain steps) = steps
steps_of (timed steps) = map (λ s. s.step) steps

-- the moment of the step of a number, from 0; none has one in a plain plan
abbrev pub moment_at : PlanValue → ℕ → Option ℕ
moment_at (plain steps) n = None
moment_at (timed steps) n = option_map (λ s. s.moment) (slice_get steps n)

-- ---- which trees spell a plan

-- a step is a list of at least one name (VAL)
abbrev pub IsStep : StepValue → Tree → Type 0
IsStep step (node ts) = Each SpellsName (step.action ∷ step.objects) (list_of ts)
IsStep step (leaf w) = ⊥

-- the tree is a colon
abbrev pub IsColon : Tree → Type 0
IsColon (leaf w) = w.kind ≡ Colon
IsColon (node ts) = ⊥

-- a timed step is a number, a colon and a step (VAL)
abbrev pub IsTimed : TimedValue → Tree → Tree → Tree → Type 0
IsTimed s number colon t = SpellsNumber s.moment number × IsColon colon × IsStep s.step t

-- the trees are these timed steps, in turn
abbrev pub AreTimed : List TimedValue → List Tree → Type 0
AreTimed [] [] = Unit {0}
AreTimed (s ∷ steps) (number ∷ colon ∷ t ∷ ts) = IsTimed s number colon t × AreTimed steps ts
AreTimed _ _ = ⊥

-- the trees are the plan's steps, in file order (VAL); all are of one kind, and a timed plan has a step (own)
abbrev pub AreSteps : PlanValue → List Tree → Type 0
AreSteps (plain steps) ts = Each IsStep steps ts
AreSteps (timed steps) ts = (0 < length steps) × AreTimed steps ts
