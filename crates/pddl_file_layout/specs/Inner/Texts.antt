-- The canonical texts as they are printed, piece by piece. No public contract names these.
use Rattle.std.specs.Prelude.{ℕ, List, [], ◌∷◌, ◌++◌, Option, Some, None, codes}
use Rattle.std.specs.List.{flat_map}
use Rattle.pddl_token.specs.NumberText.{number_text}
use Rattle.pddl_formula.specs.Terms.{TermValue, name, variable, AtomValue}
use Rattle.pddl_formula.specs.TypedLists.{TypedValue}
use Rattle.pddl_formula.specs.Formulas.{FormulaValue, atom, equal, negation, implication, conjunction, disjunction, existential, universal, FormulaValues, no_formulas, formula}
use Rattle.pddl_effect.specs.Effects as effects
use Rattle.pddl_effect.specs.Effects.{FunctionTermValue, AmountValue, number, function, EffectValue, EffectValues, no_effects, effect, conditional, addition, deletion, increase}
use Rattle.pddl_domain.specs.Declarations.{TypeValue, Signature, FunctionValue}
use Rattle.pddl_domain.specs.Actions.{ActionValue}
use Rattle.pddl_domain.specs.Domains.{DomainValue}
use Rattle.pddl_problem.specs.Inits.{GroundValue, InitValue, holds, fails, value, MetricValue, direction_word}
use Rattle.pddl_problem.specs.Problems.{ProblemValue}

-- the texts of several values, each behind a space
abbrev pub spaced_by : {X : Type 0} → (X → List ℕ) → List X → List ℕ
spaced_by text xs = flat_map (λ x. codes " " ++ text x) xs

-- ---- formulas and effects

abbrev pub word_text : List ℕ → List ℕ
word_text n = n

abbrev pub term_text : TermValue → List ℕ
term_text (name n) = n
term_text (variable n) = codes "?" ++ n

abbrev pub atom_text : AtomValue → List ℕ
atom_text a = codes "(" ++ (a.predicate ++ (spaced_by term_text a.terms ++ codes ")"))

abbrev pub type_text : List (List ℕ) → List ℕ
type_text (n ∷ []) = n
type_text names = codes "(either" ++ (spaced_by word_text names ++ codes ")")

-- an item of a typed list, behind `?` or nothing
abbrev pub typed_text : List ℕ → TypedValue → List ℕ
typed_text sign x = sign ++ (x.item ++ (codes " - " ++ type_text x.of))

abbrev pub variables_text : List TypedValue → List ℕ
variables_text [] = codes "()"
variables_text (x ∷ xs) = codes "(" ++ (typed_text (codes "?") x ++ (spaced_by (typed_text (codes "?")) xs ++ codes ")"))

abbrev mutual
  pub formula_text : FormulaValue → List ℕ
  formula_text (atom a) = atom_text a
  formula_text (equal x y) = codes "(= " ++ (term_text x ++ (codes " " ++ (term_text y ++ codes ")")))
  formula_text (negation f) = codes "(not " ++ (formula_text f ++ codes ")")
  formula_text (implication f g) = codes "(imply " ++ (formula_text f ++ (codes " " ++ (formula_text g ++ codes ")")))
  formula_text (conjunction fs) = codes "(and" ++ (formulas_text fs ++ codes ")")
  formula_text (disjunction fs) = codes "(or" ++ (formulas_text fs ++ codes ")")
  formula_text (existential xs f) = codes "(exists " ++ (variables_text xs ++ (codes " " ++ (formula_text f ++ codes ")")))
  formula_text (universal xs f) = codes "(forall " ++ (variables_text xs ++ (codes " " ++ (formula_text f ++ codes ")")))

  -- each behind a space
  pub formulas_text : FormulaValues → List ℕ
  formulas_text no_formulas = []
  formulas_text (formula f fs) = codes " " ++ (formula_text f ++ formulas_text fs)

abbrev pub function_term_text : FunctionTermValue → List ℕ
function_term_text f = codes "(" ++ (f.function ++ (spaced_by term_text f.terms ++ codes ")"))

abbrev pub amount_text : AmountValue → List ℕ
amount_text (number n) = number_text n
amount_text (function f) = function_term_text f

abbrev mutual
  pub effect_text : EffectValue → List ℕ
  effect_text (effects.conjunction es) = codes "(and" ++ (effects_text es ++ codes ")")
  effect_text (effects.universal xs e) = codes "(forall " ++ (variables_text xs ++ (codes " " ++ (effect_text e ++ codes ")")))
  effect_text (conditional f e) = codes "(when " ++ (formula_text f ++ (codes " " ++ (effect_text e ++ codes ")")))
  effect_text (addition a) = atom_text a
  effect_text (deletion a) = codes "(not " ++ (atom_text a ++ codes ")")
  effect_text (increase a) = codes "(increase (total-cost) " ++ (amount_text a ++ codes ")")

  pub effects_text : EffectValues → List ℕ
  effects_text no_effects = []
  effects_text (effect e es) = codes " " ++ (effect_text e ++ effects_text es)

-- ---- sections

-- the lines of the section that is opened so, where it has content
abbrev pub section_text : {X : Type 0} → List ℕ → (X → List ℕ) → List X → List ℕ
section_text opening text [] = []
section_text opening text (x ∷ xs) = opening ++ (spaced_by text (x ∷ xs) ++ codes ")\n")

abbrev pub flag_text : List ℕ → List ℕ
flag_text n = codes ":" ++ n

abbrev pub declared_type_text : TypeValue → List ℕ
declared_type_text t = t.item ++ (codes " - " ++ t.of)

abbrev pub signature_text : Signature → List ℕ
signature_text s = codes "(" ++ (s.name ++ (spaced_by (typed_text (codes "?")) s.parameters ++ codes ")"))

abbrev pub function_text : FunctionValue → List ℕ
function_text f = signature_text f.item ++ (codes " - " ++ type_text f.of)

abbrev pub object_text : TypedValue → List ℕ
object_text x = typed_text [] x

-- an action on four lines
abbrev pub action_lines : ActionValue → List ℕ
action_lines a =
    codes "  (:action " ++ (a.name
    ++ (codes "\n    :parameters " ++ (variables_text a.parameters
    ++ (codes "\n    :precondition " ++ (formula_text a.precondition
    ++ (codes "\n    :effect " ++ (effect_text a.effect ++ codes ")\n")))))))

abbrev pub domain_lines : DomainValue → List ℕ
domain_lines d =
    codes "(define (domain " ++ (d.name ++ (codes ")\n"
    ++ (section_text (codes "  (:requirements") flag_text d.requirements
    ++ (section_text (codes "  (:types") declared_type_text d.types
    ++ (section_text (codes "  (:constants") object_text d.constants
    ++ (section_text (codes "  (:predicates") signature_text d.predicates
    ++ (section_text (codes "  (:functions") function_text d.functions
    ++ (flat_map action_lines d.actions ++ codes ")\n"))))))))

-- ---- problems

abbrev pub ground_text : GroundValue → List ℕ
ground_text f = codes "(" ++ (f.name ++ (spaced_by word_text f.objects ++ codes ")"))

abbrev pub init_text : InitValue → List ℕ
init_text (holds f) = ground_text f
init_text (fails f) = codes "(not " ++ (ground_text f ++ codes ")")
init_text (value f n) = codes "(= " ++ (ground_text f ++ (codes " " ++ (number_text n ++ codes ")")))

abbrev pub metric_text : Option MetricValue → List ℕ
metric_text None = []
metric_text (Some m) = codes "  (:metric " ++ (direction_word m.direction ++ (codes " " ++ (ground_text m.function ++ codes ")\n")))

abbrev pub problem_lines : ProblemValue → List ℕ
problem_lines p =
    codes "(define (problem " ++ (p.name ++ (codes ")\n  (:domain " ++ (p.domain ++ (codes ")\n"
    ++ (section_text (codes "  (:requirements") flag_text p.requirements
    ++ (section_text (codes "  (:objects") object_text p.objects
    ++ (codes "  (:init" ++ (spaced_by init_text p.init
    ++ (codes ")\n  (:goal " ++ (formula_text p.goal
    ++ (codes ")\n" ++ (metric_text p.metric ++ codes ")\n"))))))))))))
