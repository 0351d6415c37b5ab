-- Worked examples: the canonical texts of a few values, computed from the definitions.
use Rattle.std.proofs.Common.{◌≡◌, ℕ, List, [], ◌∷◌, ◌++◌, refl, codes}
use Rattle.std.specs.Prelude.{Some, None}
use Rattle.pddl_formula.specs.Terms.{AtomValue, variable, name}
use Rattle.pddl_formula.specs.TypedLists.{TypedValue}
use Rattle.pddl_formula.specs.Formulas.{atom, negation, conjunction, existential, formulas_of}
use Rattle.pddl_effect.specs.Effects as effects
use Rattle.pddl_effect.specs.Effects.{addition, deletion, increase, conditional, function, effects_of}
use Rattle.pddl_domain.specs.Domains.{DomainValue}
use Rattle.pddl_problem.specs.declared.problem.Direction.TheVariants.{Minimize}
use Rattle.pddl_problem.specs.Inits.{GroundValue, holds, fails}
use Rattle.pddl_problem.specs.Problems.{ProblemValue}
use Rattle.pddl_file_layout.specs.DomainLayout.{domain_text}
use Rattle.pddl_file_layout.specs.ProblemLayout.{problem_text}

x_lamp : TypedValue
x_lamp = record { item = codes "x"; of = codes "lamp" ∷ [] }

of_x : List ℕ → AtomValue
of_x predicate = record { predicate = predicate; terms = variable (codes "x") ∷ [] }

lamps : DomainValue
lamps = record {
  name = codes "lamps";
  requirements = codes "adl" ∷ codes "action-costs" ∷ [];
  types = record { item = codes "lamp"; of = codes "object" } ∷ record { item = codes "big"; of = codes "lamp" } ∷ [];
  constants = [];
  predicates = record { name = codes "on"; parameters = x_lamp ∷ [] } ∷ record { name = codes "ok"; parameters = x_lamp ∷ [] } ∷ [];
  functions =
      record { item = record { name = codes "total-cost"; parameters = [] }; of = codes "number" ∷ [] }
      ∷ record { item = record { name = codes "price"; parameters = x_lamp ∷ [] }; of = codes "number" ∷ [] } ∷ [];
  actions =
      record {
        name = codes "light";
        parameters = x_lamp ∷ [];
        precondition = conjunction (formulas_of (negation (atom (of_x (codes "on"))) ∷ atom (of_x (codes "ok")) ∷ []));
        effect = effects.conjunction (effects_of (addition (of_x (codes "on")) ∷ increase (function (record { function = codes "price"; terms = variable (codes "x") ∷ [] })) ∷ []));
      }
      ∷ record { name = codes "check"; parameters = x_lamp ∷ []; precondition = conjunction (formulas_of []); effect = addition (of_x (codes "ok")) }
      ∷ record {
        name = codes "dark";
        parameters = [];
        precondition = existential (x_lamp ∷ []) (atom (of_x (codes "on")));
        effect = effects.universal (x_lamp ∷ []) (conditional (atom (of_x (codes "on"))) (deletion (of_x (codes "on"))));
      } ∷ [];
}

lamps_text : domain_text lamps ≡
    codes "(define (domain lamps)\n  (:requirements :adl :action-costs)\n  (:types lamp - object big - lamp)\n  (:predicates (on ?x - lamp) (ok ?x - lamp))\n"
    ++ (codes "  (:functions (total-cost) - number (price ?x - lamp) - number)\n"
    ++ (codes "  (:action light\n    :parameters (?x - lamp)\n    :precondition (and (not (on ?x)) (ok ?x))\n    :effect (and (on ?x) (increase (total-cost) (price ?x))))\n"
    ++ (codes "  (:action check\n    :parameters (?x - lamp)\n    :precondition (and)\n    :effect (ok ?x))\n"
    ++ (codes "  (:action dark\n    :parameters ()\n    :precondition (exists (?x - lamp) (on ?x))\n    :effect (forall (?x - lamp) (when (on ?x) (not (on ?x)))))\n"
    ++ codes ")\n"))))
unfolding lamps x_lamp of_x
lamps_text = refl

of_object : List ℕ → List ℕ → GroundValue
of_object n object = record { name = n; objects = object ∷ [] }

two : ProblemValue
two = record {
  name = codes "two";
  domain = codes "lamps";
  requirements = [];
  objects = record { item = codes "a"; of = codes "lamp" ∷ [] } ∷ record { item = codes "b"; of = codes "big" ∷ codes "lamp" ∷ [] } ∷ [];
  init = holds (of_object (codes "ok") (codes "a")) ∷ fails (of_object (codes "ok") (codes "b")) ∷ [];
  goal = conjunction (formulas_of (atom (record { predicate = codes "on"; terms = name (codes "a") ∷ [] }) ∷ atom (record { predicate = codes "on"; terms = name (codes "b") ∷ [] }) ∷ []));
  metric = Some (record { direction = Minimize; function = record { name = codes "total-cost"; objects = [] } });
}

two_text : problem_text two ≡
    codes "(define (problem two)\n  (:domain lamps)\n  (:objects a - lamp b - (either big lamp))\n  (:init (ok a) (not (ok b)))\n"
    ++ codes "  (:goal (and (on a) (on b)))\n  (:metric minimize (total-cost))\n)\n"
unfolding two of_object
two_text = refl

empty_problem : ProblemValue
empty_problem = record { name = codes "p"; domain = codes "d"; requirements = []; objects = []; init = []; goal = conjunction (formulas_of []); metric = None }

empty_text : problem_text empty_problem ≡ codes "(define (problem p)\n  (:domain d)\n  (:init)\n  (:goal (and))\n)\n"
unfolding empty_problem
empty_text = refl
