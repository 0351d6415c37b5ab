-- The sections of a problem as the code holds them. No public contract names these.
use Rattle.std.specs.Prelude.{◌≡◌, ℕ, List, [], ◌∷◌, map, Bool, true, false, Option, Some, None, is_some, option_map, option_to_list}
use Rattle.std.specs.Bool.{then_some}
use Rattle.std.specs.List.{flat_map}
use Rattle.pddl_formula.specs.TypedLists.{TypedValue, typed_view}
use Rattle.pddl_formula.specs.Formulas.{FormulaValue, formula_view}
use Rattle.pddl_sections.specs.Inner.Verdicts.{Turn, go, Verdict, fine}
use Rattle.pddl_sections.specs.Inner.Answers.{first_missing}
use Rattle.pddl_file.specs.declared.keyword.SectionKeyword.{SectionKeyword}
use Rattle.pddl_file.specs.declared.keyword.SectionKeyword.TheVariants as keys
use Rattle.pddl_file.specs.declared.keyword.Seen.{Seen}
use Rattle.pddl_file.specs.declared.mark.Mark.{Mark}
use Rattle.pddl_file.specs.declared.fault.FileFault.{FileFault}
use Rattle.pddl_file.specs.declared.fault.FileFault.TheVariants as faults
use Rattle.pddl_file.specs.Inner.FileReading.{RefusesSections}
use Rattle.pddl_problem.specs.Inits.{InitValue, MetricValue, init_view, metric_view}
use Rattle.pddl_problem.specs.Problems.{ProblemValue}
use Rattle.pddl_problem_reader.specs.ProblemTexts.{Part, domain, requirements, objects, init, goal, metric, domains_in, requirements_in, objects_in, init_in, goals_in, metrics_in, required}
use Rattle.pddl_problem_reader.specs.declared.section.Slots.{Slots}

-- what each section that stood adds to the problem
pub record SlotsValue : Type 0 where
  pub domain : Option (List (List ℕ))
  pub requirements : Option (List (List ℕ))
  pub objects : Option (List TypedValue)
  pub init : Option (List InitValue)
  pub goal : Option (List FormulaValue)
  pub metric : Option (List MetricValue)

-- that of the program, without where it lies in memory
abbrev pub slots_view : {A : _} → Slots A → SlotsValue
slots_view s = record {
  domain = option_map (λ n. n ∷ []) s.domain;
  requirements = option_map (λ v. v.items) s.requirements;
  objects = option_map (λ v. map typed_view v.items) s.objects;
  init = option_map (λ v. map init_view v.items) s.init;
  goal = option_map (λ f. formula_view f ∷ []) s.goal;
  metric = option_map (λ m. metric_view m ∷ []) s.metric;
}

-- no section stood
abbrev pub no_slots : SlotsValue
no_slots = record { domain = None; requirements = None; objects = None; init = None; goal = None; metric = None }

-- with this section
abbrev pub fill : SlotsValue → Part → SlotsValue
fill s (domain n) = record s { domain = Some (n ∷ []) }
fill s (requirements flags) = record s { requirements = Some flags }
fill s (objects xs) = record s { objects = Some xs }
fill s (init xs) = record s { init = Some xs }
fill s (goal f) = record s { goal = Some (f ∷ []) }
fill s (metric m) = record s { metric = Some (m ∷ []) }

-- the section, if there is one, fills its slot, and it is right exactly where there is one
abbrev pub Fills : Option Part → SlotsValue → SlotsValue → Bool → Type 0
Fills part before after filled = then_some filled after ≡ option_map (fill before) part

-- what one section says is a section of this keyword, which fills its slot
pub record FillsPart (says : Turn Part SectionKeyword Mark) (before after : SlotsValue) (key : SectionKeyword) : Type 0 where
  pub part : Part
  pub is : says ≡ go part key
  pub made : after ≡ fill before part

-- a slot holds what its sections add, and is empty where none stood
abbrev pub Slot : {X : Type 0} → Bool → Option (List X) → List X → Type 0
Slot false slot xs = (slot ≡ None) × (xs ≡ [])
Slot true slot xs = slot ≡ Some xs

-- the slots hold these sections, whose keywords were seen
pub record Holds (seen : Seen) (s : SlotsValue) (parts : List Part) : Type 0 where
  pub domain : Slot seen.domain s.domain (flat_map domains_in parts)
  pub requirements : Slot seen.requirements s.requirements (flat_map requirements_in parts)
  pub objects : Slot seen.objects s.objects (flat_map objects_in parts)
  pub init : Slot seen.init s.init (flat_map init_in parts)
  pub goal : Slot seen.goal s.goal (flat_map goals_in parts)
  pub metric : Slot seen.metric s.metric (flat_map metrics_in parts)

-- the verdict is that the sections are right, and the slots hold them
pub record HoldVerdict (s : SlotsValue) (verdict : Verdict Part SectionKeyword Mark Seen) : Type 0 where
  pub seen : Seen
  pub parts : List Part
  pub is : verdict ≡ fine seen parts
  pub hold : Holds seen s parts

-- what a slot holds, or nothing
abbrev pub or_nothing : {X : Type 0} → Option (List X) → List X
or_nothing None = []
or_nothing (Some xs) = xs

-- the slots make up the problem
pub record MakesUp (s : SlotsValue) (name : List ℕ) (problem : ProblemValue) : Type 0 where
  pub name_is : problem.name ≡ name
  pub domain_is : s.domain ≡ Some (problem.domain ∷ [])
  pub requirements_are : problem.requirements ≡ or_nothing s.requirements
  pub objects_are : problem.objects ≡ or_nothing s.objects
  pub init_is : s.init ≡ Some problem.init
  pub goal_is : s.goal ≡ Some (problem.goal ∷ [])
  pub metric_is : or_nothing s.metric ≡ option_to_list problem.metric

-- whether a slot is filled
abbrev pub has_slot : SlotsValue → SectionKeyword → Bool
has_slot s keys.Domain = is_some s.domain
has_slot s keys.Init = is_some s.init
has_slot s keys.Goal = is_some s.goal
has_slot s _ = false

-- the fault says which section is the first that is missing
abbrev pub SaysMissing : FileFault → SlotsValue → Type 0
SaysMissing (faults.Missing key) s = first_missing (has_slot s) required ≡ Some key
SaysMissing _ s = ⊥

-- the fault is that of a section that is wrong, or the sections are right, and it says which is missing
pub data Refuses (fault : FileFault) (verdict : Verdict Part SectionKeyword Mark Seen) : Type 0 where
  wrong : RefusesSections fault verdict → Refuses fault verdict
  lacking : (s : SlotsValue) → HoldVerdict s verdict → SaysMissing fault s → Refuses fault verdict
