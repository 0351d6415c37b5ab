-- What `domain` and `problem` print for the texts of their files, and how they end. Own.
use Rattle.std.specs.Prelude.{◌≡◌, ℕ, List, ◌++◌, codes}
use Rattle.pddl_domain.specs.Domains.{DomainValue}
use Rattle.pddl_problem.specs.Problems.{ProblemValue}
use Rattle.pddl_task.specs.Linked.{faults, domain_faults, IsLinked, IsGood}
use Rattle.pddl_file_lines.specs.declared.outcome.Outcome.{Outcome}
use Rattle.pddl_file_lines.specs.declared.outcome.Outcome.TheVariants.{Good, Invalid, Refused}
use Rattle.pddl_file_lines.specs.LinkRefusals.{IsLinkRefused}
use Rattle.pddl_file_lines.specs.Judgements.{ForDomain, ForProblem}

-- the line of a good domain or problem: what it is, and its name
abbrev pub good_line : List ℕ → List ℕ → List ℕ
good_line word name = codes "good: " ++ (word ++ (codes " " ++ (name ++ codes "\n")))

-- what is printed for a domain, and how that ends
abbrev pub IsDomainJudged : DomainValue → List ℕ → Outcome → Type 0
IsDomainJudged d printed Good = IsGood d × (printed ≡ good_line (codes "domain") d.name)
IsDomainJudged d printed Refused = IsLinkRefused (domain_faults d) printed
IsDomainJudged d printed Invalid = ⊥

-- what is printed for a problem with its domain, and how that ends
abbrev pub IsProblemJudged : DomainValue → ProblemValue → List ℕ → Outcome → Type 0
IsProblemJudged d p printed Good = IsLinked d p × (printed ≡ good_line (codes "problem") p.name)
IsProblemJudged d p printed Refused = IsLinkRefused (faults d p) printed
IsProblemJudged d p printed Invalid = ⊥

-- the text of a domain's file, what `domain` prints for it, and the outcome
abbrev pub IsDomainChecked : List ℕ → List ℕ → Outcome → Type 0
IsDomainChecked = ForDomain IsDomainJudged

-- the texts of a domain's and a problem's file, what `problem` prints for them, and the outcome; the problem's text plays no part
-- where the domain's is refused
abbrev pub IsProblemChecked : List ℕ → List ℕ → List ℕ → Outcome → Type 0
IsProblemChecked text problem = ForDomain (λ d. ForProblem (IsProblemJudged d) problem) text
