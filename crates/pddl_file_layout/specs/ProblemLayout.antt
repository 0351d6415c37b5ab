-- The canonical trees and the canonical text of a problem (own).
use Rattle.std.specs.Prelude.{ℕ, List, [], ◌∷◌, ◌++◌, map, Bool, true, ◌&&◌, nat_le, Option, Some, None, codes}
use Rattle.std.specs.List.{flat_map, list_all}
use Rattle.pddl_token.specs.Number.{largest}
use Rattle.pddl_token.specs.Trees.{Tree}
use Rattle.pddl_token.specs.Names.{is_name}
use Rattle.pddl_token.specs.TreeWords.{list}
use Rattle.pddl_formula.specs.Reserved.{is_predicate}
use Rattle.pddl_problem.specs.Inits.{GroundValue, InitValue, holds, fails, value, MetricValue, direction_word}
use Rattle.pddl_problem.specs.Problems.{ProblemValue}
use Rattle.pddl_file_layout.specs.FormulaValues.{is_typed, is_formula}
use Rattle.pddl_file_layout.specs.FormulaTrees.{name_tree, number_tree, equal_sign, typed_trees, formula_tree}
use Rattle.pddl_file_layout.specs.DomainLayout.{keyword_tree, flag_tree, section_trees, section_line}

-- ---- which problems the program can hold

-- a predicate and names of objects
abbrev pub is_fact : GroundValue → Bool
is_fact f = is_predicate f.name && list_all is_name f.objects

-- a function and names of objects
abbrev pub is_ground_function : GroundValue → Bool
is_ground_function f = is_name f.name && list_all is_name f.objects

-- an item of `:init`
abbrev pub is_init : InitValue → Bool
is_init (holds f) = is_fact f
is_init (fails f) = is_fact f
is_init (value f n) = is_ground_function f && nat_le n largest

-- a metric, where there is one
abbrev pub is_metric : Option MetricValue → Bool
is_metric None = true
is_metric (Some m) = is_ground_function m.function

-- all of a problem is such
abbrev pub is_problem : ProblemValue → Bool
is_problem p =
    ((is_name p.name && is_name p.domain) && (list_all is_name p.requirements && list_all is_typed p.objects))
    && ((list_all is_init p.init && is_formula p.goal) && is_metric p.metric)

-- ---- trees

-- a predicate or a function, in parentheses also without objects
abbrev pub ground_tree : GroundValue → Tree
ground_tree f = list (name_tree f.name ∷ map name_tree f.objects)

abbrev pub init_tree : InitValue → Tree
init_tree (holds f) = ground_tree f
init_tree (fails f) = list (name_tree (codes "not") ∷ ground_tree f ∷ [])
init_tree (value f n) = list (equal_sign ∷ ground_tree f ∷ number_tree n ∷ [])

-- the metric's section, where there is one
abbrev pub metric_trees : Option MetricValue → List Tree
metric_trees None = []
metric_trees (Some m) = list (keyword_tree (codes ":metric") ∷ name_tree (direction_word m.direction) ∷ ground_tree m.function ∷ []) ∷ []

-- the sections in their canonical order; `:init` stands also where it is empty
abbrev pub problem_sections : ProblemValue → List Tree
problem_sections p =
    list (keyword_tree (codes ":domain") ∷ name_tree p.domain ∷ [])
    ∷ (section_trees (codes ":requirements") (map flag_tree p.requirements)
    ++ (section_trees (codes ":objects") (typed_trees name_tree p.objects)
    ++ (list (keyword_tree (codes ":init") ∷ map init_tree p.init)
    ∷ list (keyword_tree (codes ":goal") ∷ formula_tree p.goal ∷ [])
    ∷ metric_trees p.metric)))

-- the whole
abbrev pub problem_tree : ProblemValue → Tree
problem_tree p = list (name_tree (codes "define") ∷ list (name_tree (codes "problem") ∷ name_tree p.name ∷ []) ∷ problem_sections p)

-- ---- text

-- the canonical text: one space between two words or lists, lower case, a line for each section
abbrev pub problem_text : ProblemValue → List ℕ
problem_text p = codes "(define (problem " ++ (p.name ++ (codes ")\n" ++ (flat_map section_line (problem_sections p) ++ codes ")\n")))
