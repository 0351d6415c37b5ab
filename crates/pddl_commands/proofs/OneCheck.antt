-- Texts are checked in one way.
use Rattle.std.proofs.Common.{◌≡◌, ℕ, List, refl, sym, ◌∙◌, inl}
use Rattle.pddl_domain.specs.Domains.{DomainValue}
use Rattle.pddl_domain_reader.specs.DomainTexts.{SpellsDomain}
use Rattle.pddl_domain_reader.proofs.DomainTextLaws.{one_domain}
use Rattle.pddl_problem.specs.Problems.{ProblemValue}
use Rattle.pddl_problem_reader.specs.ProblemTexts.{SpellsProblem}
use Rattle.pddl_problem_reader.proofs.ProblemTexts.{one_problem}
use Rattle.pddl_task.specs.Linked.{faults, domain_faults}
use Rattle.pddl_kind.specs.declared.Kind.TheVariants.{Domain, Problem}
use Rattle.pddl_file_lines.specs.declared.outcome.Outcome.{Outcome}
use Rattle.pddl_file_lines.specs.declared.outcome.Outcome.TheVariants.{Good, Invalid, Refused}
use Rattle.pddl_file_lines.specs.Refusals.{IsRefused}
use Rattle.pddl_file_lines.specs.LinkRefusals.{AreAlike}
use Rattle.pddl_file_lines.specs.Judgements.{ForProblem}
use Rattle.pddl_file_lines.proofs.OneRefusal.{one_refused, no_domain_refused, no_problem_refused, one_fault, good_or_refused}
use Rattle.pddl_file_lines.proofs.OneAnswer.{one_answer}
use Rattle.pddl_commands.specs.Checks.{IsDomainJudged, IsProblemJudged, IsDomainChecked, IsProblemChecked}

-- ---- one answer for values

one_domain_judged : (d : DomainValue) (printed other : List ℕ) (outcome ended : Outcome) → IsDomainJudged d printed outcome → IsDomainJudged d other ended → AreAlike printed other × (outcome ≡ ended)
one_domain_judged d printed other Good Good p q = (inl (p.1 ∙ sym q.1), refl)
one_domain_judged d printed other Good Refused p q = absurd (good_or_refused (domain_faults d) other p.0 q)
one_domain_judged d printed other Refused Good p q = absurd (good_or_refused (domain_faults d) printed q.0 p)
one_domain_judged d printed other Refused Refused p q = (one_fault (domain_faults d) printed other p q, refl)
one_domain_judged d printed other Good Invalid p bad = absurd bad
one_domain_judged d printed other Refused Invalid p bad = absurd bad
one_domain_judged d printed other Invalid ended bad q = absurd bad

one_problem_judged : (d : DomainValue) (v : ProblemValue) (printed other : List ℕ) (outcome ended : Outcome) → IsProblemJudged d v printed outcome → IsProblemJudged d v other ended
    → AreAlike printed other × (outcome ≡ ended)
one_problem_judged d v printed other Good Good p q = (inl (p.1 ∙ sym q.1), refl)
one_problem_judged d v printed other Good Refused p q = absurd (good_or_refused (faults d v) other p.0 q)
one_problem_judged d v printed other Refused Good p q = absurd (good_or_refused (faults d v) printed q.0 p)
one_problem_judged d v printed other Refused Refused p q = (one_fault (faults d v) printed other p q, refl)
one_problem_judged d v printed other Good Invalid p bad = absurd bad
one_problem_judged d v printed other Refused Invalid p bad = absurd bad
one_problem_judged d v printed other Invalid ended bad q = absurd bad

-- ---- one answer for a text

pub one_domain_outcome : (text printed other : List ℕ) (outcome ended : Outcome) → IsDomainChecked text printed outcome → IsDomainChecked text other ended
    → AreAlike printed other × (outcome ≡ ended)
one_domain_outcome text = one_answer SpellsDomain (IsRefused Domain) IsDomainJudged text (one_domain text) (no_domain_refused text) (one_refused Domain text) one_domain_judged

one_given : (problem : List ℕ) (d : DomainValue) (printed other : List ℕ) (outcome ended : Outcome) → ForProblem (IsProblemJudged d) problem printed outcome
    → ForProblem (IsProblemJudged d) problem other ended → AreAlike printed other × (outcome ≡ ended)
one_given problem d = one_answer SpellsProblem (IsRefused Problem) (IsProblemJudged d) problem (one_problem problem) (no_problem_refused problem) (one_refused Problem problem) (one_problem_judged d)

pub one_problem_outcome : (text problem printed other : List ℕ) (outcome ended : Outcome) → IsProblemChecked text problem printed outcome → IsProblemChecked text problem other ended
    → AreAlike printed other × (outcome ≡ ended)
one_problem_outcome text problem = one_answer SpellsDomain (IsRefused Domain) (λ d. ForProblem (IsProblemJudged d) problem) text (one_domain text) (no_domain_refused text) (one_refused Domain text) (one_given problem)
