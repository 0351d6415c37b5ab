-- The texts that spell problems (Kovacs, BNF definition of PDDL 3.1, `<problem>`; what is left out and that sections
-- stand in any order is own).
use Rattle.std.specs.Prelude.{◌≡◌, ℕ, List, [], ◌∷◌, option_to_list, codes}
use Rattle.std.specs.List.{flat_map}
use Rattle.pddl_token.specs.Trees.{Tree, Placed}
use Rattle.pddl_text.specs.Texts.{HasItems}
use Rattle.pddl_token.specs.TreeWords.{SpellsName, Each}
use Rattle.pddl_formula.specs.TypedLists.{TypedValue, AreTypedNames}
use Rattle.pddl_formula.specs.Formulas.{FormulaValue, IsCondition}
use Rattle.pddl_sections.specs.Sections.{Rules}
use Rattle.pddl_sections.specs.Files.{IsFile}
use Rattle.pddl_file.specs.declared.keyword.SectionKeyword.{SectionKeyword}
use Rattle.pddl_file.specs.declared.keyword.SectionKeyword.TheVariants as keys
use Rattle.pddl_file.specs.declared.mark.Mark.{Mark}
use Rattle.pddl_file.specs.declared.fault.FileFault.{FileFault}
use Rattle.pddl_file.specs.Keywords.{IsSection, IsHeaded, IsSingle}
use Rattle.pddl_file.specs.Flags.{IsFlag}
use Rattle.pddl_file.specs.Marks.{IsMarked}
use Rattle.pddl_file.specs.Faults.{FileStands}
use Rattle.pddl_problem.specs.Inits.{InitValue, MetricValue, IsInit, AreMetric}
use Rattle.pddl_problem.specs.Problems.{ProblemValue}

-- ---- sections

-- a section of a problem
pub data Part : Type 0 where
  domain : List ℕ → Part
  requirements : List (List ℕ) → Part
  objects : List TypedValue → Part
  init : List InitValue → Part
  goal : FormulaValue → Part
  metric : MetricValue → Part

-- what a section adds to a problem
abbrev pub domains_in : Part → List (List ℕ)
domains_in (domain n) = n ∷ []
domains_in part = []

abbrev pub requirements_in : Part → List (List ℕ)
requirements_in (requirements flags) = flags
requirements_in part = []

abbrev pub objects_in : Part → List TypedValue
objects_in (objects xs) = xs
objects_in part = []

abbrev pub init_in : Part → List InitValue
init_in (init xs) = xs
init_in part = []

abbrev pub goals_in : Part → List FormulaValue
goals_in (goal f) = f ∷ []
goals_in part = []

abbrev pub metrics_in : Part → List MetricValue
metrics_in (metric m) = m ∷ []
metrics_in part = []

-- ---- which trees spell them

-- the trees behind a section's keyword
abbrev pub IsContent : Part → List Tree → Type 0
IsContent (domain n) ts = (t : Tree) × (ts ≡ t ∷ []) × SpellsName n t
IsContent (requirements flags) ts = Each IsFlag flags ts
IsContent (objects xs) ts = AreTypedNames xs ts
IsContent (init xs) ts = Each IsInit xs ts
IsContent (goal f) ts = (t : Tree) × (ts ≡ t ∷ []) × IsCondition f t
IsContent (metric m) ts = AreMetric m ts

-- the keyword of a section
abbrev pub part_key : Part → SectionKeyword
part_key (domain n) = keys.Domain
part_key (requirements flags) = keys.Requirements
part_key (objects xs) = keys.Objects
part_key (init xs) = keys.Init
part_key (goal f) = keys.Goal
part_key (metric m) = keys.Metric

-- a list of the keyword and the content
abbrev pub IsPart : Part → Tree → Type 0
IsPart part t = (ts : List Tree) × IsSection (part_key part) ts t × IsContent part ts

-- the sections of a problem
abbrev pub problem_rules : Rules Part SectionKeyword Mark
problem_rules = record { Spells = IsPart; HasKey = IsHeaded; IsSingle = IsSingle; Marked = IsMarked }

-- the sections that a problem must have
abbrev pub required : List SectionKeyword
required = keys.Domain ∷ keys.Init ∷ keys.Goal ∷ []

-- The items spell the problem: they are one list `(define (problem NAME) section*)`, whose sections are the problem's, in any
-- order; an empty section says what an absent one says, where it may be absent.
pub record AreProblem (problem : ProblemValue) (items : List Placed) : Type 0 where
  pub parts : List Part
  pub file : IsFile problem_rules (codes "problem") required problem.name parts items
  pub domain_is : flat_map domains_in parts ≡ problem.domain ∷ []
  pub requirements_are : problem.requirements ≡ flat_map requirements_in parts
  pub objects_are : problem.objects ≡ flat_map objects_in parts
  pub init_is : problem.init ≡ flat_map init_in parts
  pub goal_is : flat_map goals_in parts ≡ problem.goal ∷ []
  pub metric_is : flat_map metrics_in parts ≡ option_to_list problem.metric

-- The problem spells the text, which keeps the limit of length.
pub record SpellsProblem (problem : ProblemValue) (text : List ℕ) : Type 0 where
  pub items : List Placed
  pub has : HasItems text items
  pub problem_is : AreProblem problem items

-- what each answer says of a text that is read as a problem
abbrev pub ProblemStands : FileFault → List ℕ → Type 0
ProblemStands = FileStands problem_rules (codes "problem") required
