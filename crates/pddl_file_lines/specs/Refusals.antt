-- Which texts are refused, and with which line. Own.
use Rattle.std.specs.Prelude.{◌≢◌, ℕ, List}
use Rattle.pddl_scan.specs.declared.fault.TextFault.TheVariants.{Memory}
use Rattle.pddl_step_reader.specs.declared.fault.ReadFault.{ReadFault}
use Rattle.pddl_step_reader.specs.declared.fault.ReadFault.TheVariants as plans
use Rattle.pddl_step_reader.specs.Places.{fault_place}
use Rattle.pddl_step_reader.specs.PlanTexts.{PlanStands}
use Rattle.pddl_file.specs.declared.fault.FileFault.{FileFault}
use Rattle.pddl_file.specs.declared.fault.FileFault.TheVariants as files
use Rattle.pddl_file.specs.Places.{file_place}
use Rattle.pddl_domain_reader.specs.DomainTexts.{DomainStands}
use Rattle.pddl_problem_reader.specs.ProblemTexts.{ProblemStands}
use Rattle.pddl_kind.specs.declared.Kind.{Kind}
use Rattle.pddl_kind.specs.declared.Kind.TheVariants.{Domain, Problem, Plan}
use Rattle.pddl_kind.specs.Kinds.{kind_word}
use Rattle.pddl_file_lines.specs.Lines.{fault_name, file_fault_name, IsFaultLine}

-- a fault of a plan stands in the text, and its line is printed
pub record IsPlanRefused (text printed : List ℕ) : Type 0 where
  pub fault : ReadFault
  pub no_memory : fault ≢ plans.Text Memory
  pub stands : PlanStands fault text
  pub line : IsFaultLine (kind_word Plan) text (fault_name fault) (fault_place fault) printed

-- a fault of a domain or a problem stands in the text, and its line is printed
pub record IsFileRefused (kind : Kind) (Stands : FileFault → List ℕ → Type 0) (text printed : List ℕ) : Type 0 where
  pub fault : FileFault
  pub no_memory : fault ≢ files.Text Memory
  pub stands : Stands fault text
  pub line : IsFaultLine (kind_word kind) text (file_fault_name fault) (file_place fault) printed

-- the text has a fault as a file of the kind, and its line is printed
abbrev pub IsRefused : Kind → List ℕ → List ℕ → Type 0
IsRefused Domain = IsFileRefused Domain DomainStands
IsRefused Problem = IsFileRefused Problem ProblemStands
IsRefused Plan = IsPlanRefused
