-- What `format` prints for a text, and how it ends. Own.
use Rattle.std.specs.Prelude.{◌≡◌, ℕ, List}
use Rattle.pddl_step_reader.specs.PlanTexts.{SpellsPlan}
use Rattle.pddl_domain_reader.specs.DomainTexts.{SpellsDomain}
use Rattle.pddl_problem_reader.specs.ProblemTexts.{SpellsProblem}
use Rattle.pddl_layout.specs.PlanLayout.{plan_text}
use Rattle.pddl_file_layout.specs.DomainLayout.{domain_text}
use Rattle.pddl_file_layout.specs.ProblemLayout.{problem_text}
use Rattle.pddl_kind.specs.declared.Kind.{Kind}
use Rattle.pddl_kind.specs.declared.Kind.TheVariants.{Domain, Problem, Plan}
use Rattle.pddl_file_lines.specs.declared.outcome.Outcome.{Outcome}
use Rattle.pddl_file_lines.specs.declared.outcome.Outcome.TheVariants.{Good, Invalid, Refused}
use Rattle.pddl_file_lines.specs.Refusals.{IsRefused}

-- some value spells the text, and its canonical text is printed
pub record IsPrinted {V : Type 0} (Spells : V → List ℕ → Type 0) (layout : V → List ℕ) (text printed : List ℕ) : Type 0 where
  pub value : V
  pub spells : Spells value text
  pub printed_is : printed ≡ layout value

-- some value of the kind spells the text, and its canonical text is printed
abbrev pub IsCanonical : Kind → List ℕ → List ℕ → Type 0
IsCanonical Domain = IsPrinted SpellsDomain domain_text
IsCanonical Problem = IsPrinted SpellsProblem problem_text
IsCanonical Plan = IsPrinted SpellsPlan plan_text

-- the file's text, what is printed for it, and the outcome
abbrev pub IsFormatted : Kind → List ℕ → List ℕ → Outcome → Type 0
IsFormatted kind text printed Good = IsCanonical kind text printed
IsFormatted kind text printed Refused = IsRefused kind text printed
-- `format` looks at no meaning
IsFormatted kind text printed Invalid = ⊥
