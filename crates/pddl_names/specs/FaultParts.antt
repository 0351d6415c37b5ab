-- The faults of a domain and of a problem in the parts in which they are looked for (own). Their order says nothing.
use Rattle.std.specs.Prelude.{ℕ, List, [], ◌∷◌, ◌++◌, Option, None, take, drop, flat_map}
use Rattle.std.specs.Borrow.{Bor}
use Rattle.std.specs.Option.{option_map_or}
use Rattle.pddl_formula.specs.Formulas.{conjunction, no_formulas}
use Rattle.pddl_domain.specs.Actions.{ActionValue}
use Rattle.pddl_domain.specs.Domains.{DomainValue}
use Rattle.pddl_problem.specs.declared.problem.Problem.{Problem}
use Rattle.pddl_problem.specs.Problems.{ProblemValue, problem_view}
use Rattle.pddl_task.specs.Names.{Name, is_in, word_if}
use Rattle.pddl_task.specs.Places.{Place, action_places, problem_places}
use Rattle.pddl_task.specs.Settings.{in_domain, in_problem}
use Rattle.pddl_task.specs.Faults.{object_types, contradictions, cost_values, object_fluents, other_metrics}
use Rattle.pddl_task.specs.Linked.{FaultRule, rules}
use Rattle.pddl_faults.specs.Found.{numbered}
use Rattle.pddl_types.specs.Told.{unknown_among}
use Rattle.pddl_types.specs.Objects.{off_types}
use Rattle.pddl_types.specs.Known.{repeated_names}
use Rattle.pddl_names.specs.Uses.{place_faults}

-- faults part by part
abbrev pub FaultParts : Type 0
FaultParts = List (List (ℕ × Name))

-- all of them
abbrev pub joined : FaultParts → List (ℕ × Name)
joined parts = flat_map (λ part. part) parts

-- ---- files

-- a problem that says nothing: it adds no fault to those of a domain
abbrev pub no_problem : ProblemValue
no_problem = record { name = []; domain = []; requirements = []; objects = []; init = []; goal = conjunction no_formulas; metric = None }

-- the problem that a domain is looked at with; alone, with one that says nothing
abbrev pub problem_in : {A : _} → Option (Bor (Problem A)) → ProblemValue
problem_in problem = option_map_or (λ p. problem_view p.now) problem no_problem

-- ---- parts

-- actions behind names that were seen: a name that was, and what is looked for at the action's places
abbrev pub action_faults : (Place → List (ℕ × Name)) → List Name → List ActionValue → List (ℕ × Name)
action_faults sought seen [] = []
action_faults sought seen (a ∷ rest) = (numbered 24 (word_if (is_in seen a.name) a.name) ++ flat_map sought (action_places a)) ++ action_faults sought (seen ++ a.name ∷ []) rest

-- a domain, but for types that are not known in what it declares
abbrev pub domain_parts : DomainValue → FaultParts
domain_parts d =
    repeated_names d
    ∷ action_faults (place_faults d.types (in_domain d)) [] d.actions
    ∷ numbered 25 (object_types d.constants)
    ∷ numbered 32 (object_fluents d) ∷ []

-- a problem, but for the size of its goal
abbrev pub problem_parts : DomainValue → ProblemValue → FaultParts
problem_parts d p =
    numbered 23 (unknown_among d.types p.objects)
    ∷ numbered 24 (off_types d.constants p.objects)
    ∷ (flat_map (place_faults d.types (in_problem d p)) (problem_places p) ++ numbered 33 (other_metrics p.metric))
    ∷ (numbered 29 (contradictions p) ++ numbered 31 (cost_values p))
    ∷ numbered 25 (object_types p.objects) ∷ []

-- ---- rules

-- those of all that is looked for behind types, but for the size of the goal: 23 to 33
abbrev pub part_rules : List FaultRule
part_rules = take 11 (drop 3 rules)

-- that of the size of the goal, 35
abbrev pub goal_rules : List FaultRule
goal_rules = drop 14 rules
