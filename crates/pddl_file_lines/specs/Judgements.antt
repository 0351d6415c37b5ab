-- What a command answers for a text: that it is refused, or how what it spells is judged. Own.
use Rattle.std.specs.Prelude.{◌≡◌, ◌⊎◌, ℕ, List}
use Rattle.pddl_domain.specs.Domains.{DomainValue}
use Rattle.pddl_domain_reader.specs.DomainTexts.{SpellsDomain}
use Rattle.pddl_problem.specs.Problems.{ProblemValue}
use Rattle.pddl_problem_reader.specs.ProblemTexts.{SpellsProblem}
use Rattle.pddl_kind.specs.declared.Kind.TheVariants.{Domain, Problem}
use Rattle.pddl_file_lines.specs.declared.outcome.Outcome.{Outcome}
use Rattle.pddl_file_lines.specs.declared.outcome.Outcome.TheVariants.{Refused}
use Rattle.pddl_file_lines.specs.Refusals.{IsRefused}

-- a domain's text is refused, or the domain that it spells is judged
abbrev pub ForDomain : (DomainValue → List ℕ → Outcome → Type 0) → List ℕ → List ℕ → Outcome → Type 0
ForDomain Judged text printed outcome =
    ((outcome ≡ Refused) × IsRefused Domain text printed) ⊎ ((d : DomainValue) × SpellsDomain d text × Judged d printed outcome)

-- so for a problem's text
abbrev pub ForProblem : (ProblemValue → List ℕ → Outcome → Type 0) → List ℕ → List ℕ → Outcome → Type 0
ForProblem Judged text printed outcome =
    ((outcome ≡ Refused) × IsRefused Problem text printed) ⊎ ((p : ProblemValue) × SpellsProblem p text × Judged p printed outcome)
