-- A text is refused in one way, and not where a value spells it; so are files that do not link, but for the word of their fault.
use Rattle.std.proofs.Common.{◌≡◌, ℕ, List, [], refl, sym, ap, subst, ◌∙◌, inr}
use Rattle.std.specs.Prelude.{◌≢◌, codes, None}
use Rattle.pddl_scan.specs.declared.fault.TextFault.TheVariants.{Memory}
use Rattle.pddl_plan.specs.Plans.{PlanValue}
use Rattle.pddl_step_reader.specs.declared.fault.ReadFault.{ReadFault}
use Rattle.pddl_step_reader.specs.declared.fault.ReadFault.TheVariants as plans
use Rattle.pddl_step_reader.specs.Places.{fault_place}
use Rattle.pddl_step_reader.specs.PlanTexts.{SpellsPlan, without_near}
use Rattle.pddl_plan_reader.proofs.PlanTextLaws.{one_plan_fault, no_fault_in_plan}
use Rattle.pddl_file.specs.declared.fault.FileFault.{FileFault}
use Rattle.pddl_file.specs.declared.fault.FileFault.TheVariants as files
use Rattle.pddl_file.specs.Places.{file_place}
use Rattle.pddl_domain.specs.Domains.{DomainValue}
use Rattle.pddl_domain_reader.specs.DomainTexts.{SpellsDomain, DomainStands}
use Rattle.pddl_domain_reader.proofs.DomainTextLaws.{one_domain_fault, no_fault_in_domain}
use Rattle.pddl_problem.specs.Problems.{ProblemValue}
use Rattle.pddl_problem_reader.specs.ProblemTexts.{SpellsProblem, ProblemStands}
use Rattle.pddl_problem_reader.proofs.ProblemTexts.{one_fault as one_problem_fault, no_fault as no_fault_in_problem}
use Rattle.pddl_task.specs.Linked.{Fault, NoneStands}
use Rattle.pddl_task.proofs.LowestFault.{one_lowest, none_stand}
use Rattle.pddl_kind.specs.declared.Kind.{Kind}
use Rattle.pddl_kind.specs.declared.Kind.TheVariants.{Domain, Problem, Plan}
use Rattle.pddl_kind.specs.Kinds.{kind_word}
use Rattle.pddl_file_lines.specs.Lines.{fault_name, file_fault_name, link_fault_text, IsFaultLine}
use Rattle.pddl_file_lines.specs.Refusals.{IsPlanRefused, IsFileRefused, IsRefused}
use Rattle.pddl_file_lines.specs.LinkRefusals.{IsLinkRefused, AreAlike}
use Rattle.pddl_file_lines.proofs.FaultLines.{one_line}

-- ---- one line for a text

same_name : (fault : ReadFault) → fault_name (without_near fault) ≡ fault_name fault
same_name (plans.Text t) = refl
same_name (plans.Step span near) = refl
same_name (plans.Mixed span) = refl
same_name (plans.Duration span) = refl

same_place : (fault : ReadFault) → fault_place (without_near fault) ≡ fault_place fault
same_place (plans.Text t) = refl
same_place (plans.Step span near) = refl
same_place (plans.Mixed span) = refl
same_place (plans.Duration span) = refl

one_plan_line : (text printed other : List ℕ) → IsPlanRefused text printed → IsPlanRefused text other → printed ≡ other
one_plan_line text printed other p q =
    let same = one_plan_fault text p.fault q.fault p.stands q.stands p.no_memory q.no_memory in
    one_line (kind_word Plan) text (fault_name p.fault) (fault_name q.fault) (fault_place p.fault) (fault_place q.fault) printed other
    (sym (same_name p.fault) ∙ ap fault_name same ∙ same_name q.fault) (sym (same_place p.fault) ∙ ap fault_place same ∙ same_place q.fault) p.line q.line

one_file_line : (kind : Kind) (Stands : FileFault → List ℕ → Type 0) (text printed other : List ℕ)
    → ((fault found : FileFault) → Stands fault text → Stands found text → fault ≢ files.Text Memory → found ≢ files.Text Memory → fault ≡ found)
    → IsFileRefused kind Stands text printed → IsFileRefused kind Stands text other → printed ≡ other
one_file_line kind Stands text printed other one p q =
    let same = one p.fault q.fault p.stands q.stands p.no_memory q.no_memory in
    one_line (kind_word kind) text (file_fault_name p.fault) (file_fault_name q.fault) (file_place p.fault) (file_place q.fault) printed other
    (ap file_fault_name same) (ap file_place same) p.line q.line

pub one_refused : (kind : Kind) (text printed other : List ℕ) → IsRefused kind text printed → IsRefused kind text other → printed ≡ other
one_refused Domain text printed other p q = one_file_line Domain DomainStands text printed other (one_domain_fault text) p q
one_refused Problem text printed other p q = one_file_line Problem ProblemStands text printed other (one_problem_fault text) p q
one_refused Plan text printed other p q = one_plan_line text printed other p q

-- ---- no line for a text that a value spells

pub no_domain_refused : (text : List ℕ) (d : DomainValue) (line : List ℕ) → SpellsDomain d text → IsRefused Domain text line → ⊥
no_domain_refused text d line spells q = q.no_memory (no_fault_in_domain text q.fault d q.stands spells)

pub no_problem_refused : (text : List ℕ) (v : ProblemValue) (line : List ℕ) → SpellsProblem v text → IsRefused Problem text line → ⊥
no_problem_refused text v line spells q = q.no_memory (no_fault_in_problem text q.fault v q.stands spells)

pub no_plan_refused : (text : List ℕ) (plan : PlanValue) (line : List ℕ) → SpellsPlan plan text → IsRefused Plan text line → ⊥
no_plan_refused text plan line spells q = q.no_memory (no_fault_in_plan text q.fault plan q.stands spells)

-- ---- one fault of linking

pub one_fault : (fs : List Fault) (printed other : List ℕ) → IsLinkRefused fs printed → IsLinkRefused fs other → AreAlike printed other
one_fault fs printed other p q =
    let same = one_lowest fs p.number q.number p.word q.word p.lowest q.lowest in
    inr (record {
      number = p.number;
      word = p.word;
      other_word = q.word;
      line = p.line;
      other_line = subst (λ n. IsFaultLine (codes "link") [] (link_fault_text n q.word) None other) (sym same) q.line;
    })

pub good_or_refused : (fs : List Fault) (other : List ℕ) → NoneStands fs → IsLinkRefused fs other → ⊥
good_or_refused fs other none q = none_stand fs q.number q.word none q.lowest.stands
