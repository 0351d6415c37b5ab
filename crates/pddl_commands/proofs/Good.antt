-- What is said of files that are good.
use Rattle.std.proofs.Common.{◌≡◌, List, ℕ, sym, subst}
use Rattle.std.specs.Prelude.{codes, IsErrOf, Result, Ok}
use Rattle.pddl_domain.specs.Domains.{DomainValue}
use Rattle.pddl_domain_reader.specs.DomainTexts.{SpellsDomain}
use Rattle.pddl_problem.specs.Problems.{ProblemValue}
use Rattle.pddl_problem_reader.specs.ProblemTexts.{SpellsProblem}
use Rattle.pddl_task.specs.Linked.{domain_faults, IsGood}
use Rattle.pddl_faults.specs.declared.fault.LinkFault.{LinkFault}
use Rattle.pddl_faults.specs.Passes.{Verdict}
use Rattle.pddl_file_layout.specs.DomainLayout.{domain_text}
use Rattle.pddl_file_layout.specs.ProblemLayout.{problem_text}
use Rattle.pddl_kind.specs.declared.Kind.{Kind}
use Rattle.pddl_kind.specs.declared.Kind.TheVariants.{Domain, Problem, Plan}
use Rattle.pddl_layout.specs.PlanLayout.{plan_text}
use Rattle.pddl_plan.specs.Plans.{PlanValue}
use Rattle.pddl_step_reader.specs.PlanTexts.{SpellsPlan}
use Rattle.pddl_file_lines.specs.declared.outcome.Outcome.{Outcome}
use Rattle.pddl_file_lines.specs.declared.outcome.Outcome.TheVariants.{Good, Refused}
use Rattle.pddl_file_lines.specs.Refusals.{IsRefused}
use Rattle.pddl_commands.specs.Checks.{good_line, IsDomainJudged}
use Rattle.pddl_commands.specs.Formats.{IsFormatted}

-- a domain whose verdict is no fault is good
pub good_by_verdict : {T : Type 0} (d : DomainValue) (r : Result T LinkFault) (x : T) → r ≡ Ok x → Verdict (domain_faults d) r → IsGood d
good_by_verdict d r x is h = subst (λ v. Verdict (domain_faults d) v) is h

-- a domain that shows no fault is judged good
pub judged_good : (d : DomainValue) (printed : List ℕ) (outcome : Outcome) → outcome ≡ Good → IsGood d → printed ≡ good_line (codes "domain") d.name → IsDomainJudged d printed outcome
judged_good d printed outcome is good line = subst (λ o. IsDomainJudged d printed o) (sym is) (good, line)

-- the canonical text of a domain is printed
pub printed_good : (d : DomainValue) (text printed : List ℕ) (outcome : Outcome) → outcome ≡ Good → SpellsDomain d text → printed ≡ domain_text d → IsFormatted Domain text printed outcome
printed_good d text printed outcome is spells line = subst (λ o. IsFormatted Domain text printed o) (sym is) (record { value = d; spells = spells; printed_is = line })

-- so is that of a problem
pub problem_printed : (p : ProblemValue) (text printed : List ℕ) (outcome : Outcome) → outcome ≡ Good → SpellsProblem p text → printed ≡ problem_text p → IsFormatted Problem text printed outcome
problem_printed p text printed outcome is spells line = subst (λ o. IsFormatted Problem text printed o) (sym is) (record { value = p; spells = spells; printed_is = line })

-- and of a plan
pub plan_printed : (p : PlanValue) (text printed : List ℕ) (outcome : Outcome) → outcome ≡ Good → SpellsPlan p text → printed ≡ plan_text p → IsFormatted Plan text printed outcome
plan_printed p text printed outcome is spells line = subst (λ o. IsFormatted Plan text printed o) (sym is) (record { value = p; spells = spells; printed_is = line })

-- the line of a file that is refused, whose text is told as another that it is
pub printed_refused : (kind : Kind) {text given : List ℕ} (printed : List ℕ) {outcome : Outcome} → given ≡ text → outcome ≡ Refused → IsRefused kind given printed → IsFormatted kind text printed outcome
printed_refused kind {text} {given} printed {outcome} same is refused = subst (λ o. IsFormatted kind text printed o) (sym is) (subst (λ t. IsRefused kind t printed) same refused)

-- an outcome that refuses is not that of a good file, and what is answered is no error
pub refused_is_bad : Refused ≡ Good → ⊥
refused_is_bad is = cc (is)

pub answered : {T E : Type 0} {x : T} {e : E} → IsErrOf (Ok x) e → ⊥
answered is = cc (is)
