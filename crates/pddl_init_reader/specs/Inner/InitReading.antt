-- The items of `:init` and the metrics that trees spell, computed from the trees, for the readers above. What they mean stands in Inits.
use Rattle.std.specs.Prelude.{ℕ, List, [], ◌∷◌, map, Option, Some, None, option_map, option_and_then, if◌then◌else◌, codes}
use Rattle.pddl_token.specs.Trees.{Tree, leaf, node, list_of}
use Rattle.pddl_items.specs.Inner.TreeReading.{name_at, is_word_at, all_of}
use Rattle.pddl_formula_reader.specs.declared.head.Head.{Head}
use Rattle.pddl_formula_reader.specs.declared.head.Head.TheVariants as heads
use Rattle.pddl_formula_reader.specs.Inner.Reading.{predicate_at, head_at, only}
use Rattle.pddl_effect_reader.specs.Inner.EffectReading.{call_at, number_at}
use Rattle.pddl_problem.specs.declared.problem.Direction.{Direction}
use Rattle.pddl_problem.specs.declared.problem.Direction.TheVariants as directions
use Rattle.pddl_problem.specs.Inits.{GroundValue, InitValue, holds, fails, value, MetricValue}

-- ---- items of `:init`

-- the fact of this head and these arguments
abbrev pub fact_of : Tree → List Tree → Option GroundValue
fact_of head ts = option_and_then (λ p. option_map (λ xs. record { name = p; objects = xs }) (all_of (map name_at ts))) (predicate_at head)

abbrev pub fact_of_list : List Tree → Option GroundValue
fact_of_list [] = None
fact_of_list (head ∷ ts) = fact_of head ts

abbrev pub fact_at : Tree → Option GroundValue
fact_at (leaf w) = None
fact_at (node ts) = fact_of_list (list_of ts)

abbrev pub ground_call : List ℕ × List (List ℕ) → GroundValue
ground_call c = record { name = c.0; objects = c.1 }

abbrev pub ground_function_at : Tree → Option GroundValue
ground_function_at t = option_map ground_call (call_at name_at t)

-- the value of a function, of the trees behind `=`
abbrev pub value_of : List Tree → Option InitValue
value_of [] = None
value_of (g ∷ []) = None
value_of (g ∷ x ∷ []) = option_and_then (λ f. option_map (value f) (number_at x)) (ground_function_at g)
value_of (g ∷ x ∷ y ∷ ts) = None

abbrev pub init_by : Head → Tree → List Tree → Option InitValue
init_by heads.Name head ts = option_map holds (fact_of head ts)
init_by heads.Not head ts = option_map fails (only (map fact_at ts))
init_by heads.Equal head ts = value_of ts
init_by _ head ts = None

abbrev pub init_of_list : List Tree → Option InitValue
init_of_list [] = None
init_of_list (head ∷ ts) = init_by (head_at head) head ts

abbrev pub init_at : Tree → Option InitValue
init_at (leaf w) = None
init_at (node ts) = init_of_list (list_of ts)

-- ---- metrics

abbrev pub direction_at : Tree → Option Direction
direction_at t =
    if is_word_at (codes "minimize") t then Some directions.Minimize
    else (if is_word_at (codes "maximize") t then Some directions.Maximize
    else None)

abbrev pub metric_of : List Tree → Option MetricValue
metric_of [] = None
metric_of (first ∷ []) = None
metric_of (first ∷ second ∷ []) = option_and_then (λ d. option_map (λ f. record { direction = d; function = f }) (ground_function_at second)) (direction_at first)
metric_of (first ∷ second ∷ third ∷ ts) = None
