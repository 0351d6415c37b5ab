-- Items of `:init`, metrics, and the trees that spell them (Kovacs, `<init-el>`, `<metric-spec>`, of which parts are left out).
use Rattle.std.specs.Prelude.{◌≡◌, ℕ, List, [], ◌∷◌, codes}
use Rattle.pddl_token.specs.Trees.{Tree}
use Rattle.pddl_token.specs.TreeWords.{list, IsWord, IsEqualSign, SpellsName, Each, SpellsNumber}
use Rattle.pddl_formula.specs.Terms.{IsPredicate}
use Rattle.pddl_effect.specs.Effects.{IsCall}
use Rattle.pddl_problem.specs.declared.problem.Fact.{Fact}
use Rattle.pddl_problem.specs.declared.problem.GroundFunction.{GroundFunction}
use Rattle.pddl_problem.specs.declared.problem.InitItem.{InitItem}
use Rattle.pddl_problem.specs.declared.problem.InitItem.TheVariants as items
use Rattle.pddl_problem.specs.declared.problem.Direction.{Direction}
use Rattle.pddl_problem.specs.declared.problem.Direction.TheVariants as directions
use Rattle.pddl_problem.specs.declared.problem.Metric.{Metric}

-- ---- values

-- a predicate, or a function, and the names of objects
pub record GroundValue : Type 0 where
  pub name : List ℕ
  pub objects : List (List ℕ)

-- an item of `:init`: a fact holds or does not, or a function has a value in billionths
pub data InitValue : Type 0 where
  holds : GroundValue → InitValue
  fails : GroundValue → InitValue
  value : GroundValue → ℕ → InitValue

-- a metric
pub record MetricValue : Type 0 where
  pub direction : Direction
  pub function : GroundValue

-- a fact of the program without where it lies in memory
abbrev pub fact_view : {A : _} → Fact A → GroundValue
fact_view f = record { name = f.predicate; objects = f.objects }

-- a function of the program, likewise
abbrev pub function_view : {A : _} → GroundFunction A → GroundValue
function_view f = record { name = f.function; objects = f.objects }

-- an item of `:init`, likewise
abbrev pub init_view : {A : _} → InitItem A → InitValue
init_view (items.Holds f) = holds (fact_view f)
init_view (items.Fails f) = fails (fact_view f)
init_view (items.Value f n) = value (function_view f) n

-- a metric, likewise
abbrev pub metric_view : {A : _} → Metric A → MetricValue
metric_view m = record { direction = m.direction; function = function_view m.function }

-- ---- which trees spell them

-- `(p name*)`
abbrev pub IsFact : GroundValue → Tree → Type 0
IsFact f t = (head : Tree) × (ts : List Tree) × (t ≡ list (head ∷ ts)) × IsPredicate f.name head × Each SpellsName f.objects ts

-- `(f name*)`, or the bare name f where there is no object
abbrev pub IsGroundFunction : GroundValue → Tree → Type 0
IsGroundFunction f t = IsCall SpellsName f.name f.objects t

-- `(p name*)`, `(not (p name*))`, or `(= G number)`
abbrev pub IsInit : InitValue → Tree → Type 0
IsInit (holds f) t = IsFact f t
IsInit (fails f) t = (head x : Tree) × (t ≡ list (head ∷ x ∷ [])) × IsWord (codes "not") head × IsFact f x
IsInit (value f n) t = (head g x : Tree) × (t ≡ list (head ∷ g ∷ x ∷ [])) × IsEqualSign head × IsGroundFunction f g × SpellsNumber n x

-- the word of a direction
abbrev pub direction_word : Direction → List ℕ
direction_word directions.Minimize = codes "minimize"
direction_word directions.Maximize = codes "maximize"

-- a direction, then G
abbrev pub AreMetric : MetricValue → List Tree → Type 0
AreMetric m ts = (first second : Tree) × (ts ≡ first ∷ second ∷ []) × IsWord (direction_word m.direction) first × IsGroundFunction m.function second
