-- Problems (Kovacs, BNF definition of PDDL 3.1, `<problem>`; what is left out is own).
use Rattle.std.specs.Prelude.{ℕ, List, map, Option, option_map}
use Rattle.pddl_formula.specs.TypedLists.{TypedValue, typed_view}
use Rattle.pddl_formula.specs.Formulas.{FormulaValue, formula_view}
use Rattle.pddl_problem.specs.Inits.{InitValue, MetricValue, init_view, metric_view}
use Rattle.pddl_problem.specs.declared.problem.Problem.{Problem}

-- a problem: its domain's name, flags by their names without the colon, objects, what holds at first, the goal, and a metric
pub record ProblemValue : Type 0 where
  pub name : List ℕ
  pub domain : List ℕ
  pub requirements : List (List ℕ)
  pub objects : List TypedValue
  pub init : List InitValue
  pub goal : FormulaValue
  pub metric : Option MetricValue

-- a problem of the program without where it lies in memory
abbrev pub problem_view : {A : _} → Problem A → ProblemValue
problem_view p = record {
  name = p.name;
  domain = p.domain;
  requirements = p.requirements.items;
  objects = map typed_view p.objects.items;
  init = map init_view p.init.items;
  goal = formula_view p.goal;
  metric = option_map metric_view p.metric;
}
