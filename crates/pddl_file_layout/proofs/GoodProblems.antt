-- A problem that some text spells is one that the program can hold.
use Rattle.std.proofs.Common.{◌≡◌, Bool, true, false, ◌&&◌, List, [], ◌∷◌, map, refl, sym, ap, ◌∙◌, inl, inr}
use Rattle.std.specs.Prelude.{nat_le, Option, Some, None, option_to_list}
use Rattle.std.specs.List.{flat_map, list_all}
use Rattle.std.proofs.lemmas.Bool.{and_from}
use Rattle.pddl_token.specs.Number.{largest}
use Rattle.pddl_token.specs.Trees.{Tree, Placed, erased}
use Rattle.pddl_token.specs.Names.{is_name}
use Rattle.pddl_token.specs.TreeWords.{SpellsName, Each}
use Rattle.pddl_items.proofs.Readers.{each_good}
use Rattle.pddl_formula.specs.Reserved.{is_predicate}
use Rattle.pddl_file.specs.Flags.{IsFlag}
use Rattle.pddl_problem.specs.Inits.{GroundValue, InitValue, holds, fails, value, MetricValue, IsFact, IsGroundFunction, IsInit}
use Rattle.pddl_problem.specs.Problems.{ProblemValue}
use Rattle.pddl_problem_reader.specs.ProblemTexts.{Part, domain, requirements, objects, init, goal, metric, domains_in, requirements_in, objects_in, init_in, goals_in, metrics_in, IsContent, IsPart, AreProblem}
use Rattle.pddl_file_layout.specs.FormulaValues.{is_typed, is_formula}
use Rattle.pddl_file_layout.specs.ProblemLayout.{is_fact, is_ground_function, is_init, is_metric, is_problem}
use Rattle.pddl_file_layout.proofs.GoodFormulas.{all_append, name_good, predicate_good, typed_names_good, number_good, condition_good}
use Rattle.pddl_file_layout.proofs.GoodDomains.{flag_good}

-- ---- items of `:init`

fact_good : (f : GroundValue) (t : Tree) → IsFact f t → is_fact f ≡ true
fact_good f t (head, ts, is, predicate, each) =
    and_from (is_predicate f.name) (list_all is_name f.objects) (predicate_good f.name head predicate) (each_good is_name SpellsName name_good f.objects ts each)

ground_good : (f : GroundValue) (t : Tree) → IsGroundFunction f t → is_ground_function f ≡ true
ground_good f t (inl (none, spelled)) = and_from (is_name f.name) (list_all is_name f.objects) (name_good f.name t spelled) (ap (list_all is_name) none)
ground_good f t (inr (head, ts, is, spelled, each)) =
    and_from (is_name f.name) (list_all is_name f.objects) (name_good f.name head spelled) (each_good is_name SpellsName name_good f.objects ts each)

init_good : (x : InitValue) (t : Tree) → IsInit x t → is_init x ≡ true
init_good (holds f) t is = fact_good f t is
init_good (fails f) t (head, x, is, word, fact) = fact_good f x fact
init_good (value f n) t (head, g, x, is, sign, ground, number) =
    and_from (is_ground_function f) (nat_le n largest) (ground_good f g ground) (number_good n x number)

-- ---- sections

module _ {X : Type 0} (test : X → Bool) (add : Part → List X) (good : (part : Part) (ts : List Tree) → IsContent part ts → list_all test (add part) ≡ true) where
  sections_good : (parts : List Part) (ts : List Tree) → Each IsPart parts ts → list_all test (flat_map add parts) ≡ true
  sections_good [] ts each = refl
  sections_good (part ∷ parts) [] each = absurd each
  sections_good (part ∷ parts) (t ∷ ts) ((us, section, content), rest) = all_append test (add part) (flat_map add parts) (good part us content) (sections_good parts ts rest)

domain_section : (part : Part) (ts : List Tree) → IsContent part ts → list_all is_name (domains_in part) ≡ true
domain_section (domain n) ts (t, is, spelled) = and_from (is_name n) true (name_good n t spelled) refl
domain_section (requirements flags) ts is = refl
domain_section (objects xs) ts is = refl
domain_section (init xs) ts is = refl
domain_section (goal f) ts is = refl
domain_section (metric m) ts is = refl

requirements_section : (part : Part) (ts : List Tree) → IsContent part ts → list_all is_name (requirements_in part) ≡ true
requirements_section (domain n) ts is = refl
requirements_section (requirements flags) ts is = each_good is_name IsFlag flag_good flags ts is
requirements_section (objects xs) ts is = refl
requirements_section (init xs) ts is = refl
requirements_section (goal f) ts is = refl
requirements_section (metric m) ts is = refl

objects_section : (part : Part) (ts : List Tree) → IsContent part ts → list_all is_typed (objects_in part) ≡ true
objects_section (domain n) ts is = refl
objects_section (requirements flags) ts is = refl
objects_section (objects xs) ts is = typed_names_good xs ts is
objects_section (init xs) ts is = refl
objects_section (goal f) ts is = refl
objects_section (metric m) ts is = refl

init_section : (part : Part) (ts : List Tree) → IsContent part ts → list_all is_init (init_in part) ≡ true
init_section (domain n) ts is = refl
init_section (requirements flags) ts is = refl
init_section (objects xs) ts is = refl
init_section (init xs) ts is = each_good is_init IsInit init_good xs ts is
init_section (goal f) ts is = refl
init_section (metric m) ts is = refl

goal_section : (part : Part) (ts : List Tree) → IsContent part ts → list_all is_formula (goals_in part) ≡ true
goal_section (domain n) ts is = refl
goal_section (requirements flags) ts is = refl
goal_section (objects xs) ts is = refl
goal_section (init xs) ts is = refl
goal_section (goal f) ts (t, is, condition) = and_from (is_formula f) true (condition_good f t condition) refl
goal_section (metric m) ts is = refl

-- a metric's function
is_measured : MetricValue → Bool
is_measured m = is_ground_function m.function

metric_section : (part : Part) (ts : List Tree) → IsContent part ts → list_all is_measured (metrics_in part) ≡ true
unfolding is_measured
metric_section (domain n) ts is = refl
metric_section (requirements flags) ts is = refl
metric_section (objects xs) ts is = refl
metric_section (init xs) ts is = refl
metric_section (goal f) ts is = refl
metric_section (metric m) ts (first, second, is, word, function) = and_from (is_ground_function m.function) true (ground_good m.function second function) refl

-- ---- the whole

first_of : (a b : Bool) → (a && b) ≡ true → a ≡ true
first_of true b h = refl
first_of false b h = absurd (cc)

metric_is_good : (m : Option MetricValue) → list_all is_measured (option_to_list m) ≡ true → is_metric m ≡ true
unfolding is_measured
metric_is_good None h = refl
metric_is_good (Some m) h = first_of (is_ground_function m.function) true h

pub problem_good : (p : ProblemValue) (items : List Placed) → AreProblem p items → is_problem p ≡ true
problem_good p items s =
    let trees = map erased s.file.sections in
    let each = s.file.fits.each in
    let opens = s.file.opened.opens in
    and_from ((is_name p.name && is_name p.domain) && (list_all is_name p.requirements && list_all is_typed p.objects)) ((list_all is_init p.init && is_formula p.goal) && is_metric p.metric)
    (and_from (is_name p.name && is_name p.domain) (list_all is_name p.requirements && list_all is_typed p.objects)
    (and_from (is_name p.name) (is_name p.domain) (name_good p.name opens.is_title.1 opens.is_title.4)
    (first_of (is_name p.domain) true (ap (list_all is_name) (sym s.domain_is) ∙ sections_good is_name domains_in domain_section s.parts trees each)))
    (and_from (list_all is_name p.requirements) (list_all is_typed p.objects)
    (ap (list_all is_name) s.requirements_are ∙ sections_good is_name requirements_in requirements_section s.parts trees each)
    (ap (list_all is_typed) s.objects_are ∙ sections_good is_typed objects_in objects_section s.parts trees each)))
    (and_from (list_all is_init p.init && is_formula p.goal) (is_metric p.metric)
    (and_from (list_all is_init p.init) (is_formula p.goal)
    (ap (list_all is_init) s.init_is ∙ sections_good is_init init_in init_section s.parts trees each)
    (first_of (is_formula p.goal) true (ap (list_all is_formula) (sym s.goal_is) ∙ sections_good is_formula goals_in goal_section s.parts trees each)))
    (metric_is_good p.metric (ap (list_all is_measured) (sym s.metric_is) ∙ sections_good is_measured metrics_in metric_section s.parts trees each)))
