-- A text is formatted in one way.
use Rattle.std.proofs.Common.{◌≡◌, ℕ, List, refl, sym, ap, ◌∙◌}
use Rattle.pddl_step_reader.specs.PlanTexts.{SpellsPlan}
use Rattle.pddl_plan_reader.proofs.PlanTextLaws.{one_plan}
use Rattle.pddl_domain_reader.specs.DomainTexts.{SpellsDomain}
use Rattle.pddl_domain_reader.proofs.DomainTextLaws.{one_domain}
use Rattle.pddl_problem_reader.specs.ProblemTexts.{SpellsProblem}
use Rattle.pddl_problem_reader.proofs.ProblemTexts.{one_problem}
use Rattle.pddl_layout.specs.PlanLayout.{plan_text}
use Rattle.pddl_file_layout.specs.DomainLayout.{domain_text}
use Rattle.pddl_file_layout.specs.ProblemLayout.{problem_text}
use Rattle.pddl_kind.specs.declared.Kind.{Kind}
use Rattle.pddl_kind.specs.declared.Kind.TheVariants.{Domain, Problem, Plan}
use Rattle.pddl_file_lines.specs.declared.outcome.Outcome.{Outcome}
use Rattle.pddl_file_lines.specs.declared.outcome.Outcome.TheVariants.{Good, Invalid, Refused}
use Rattle.pddl_file_lines.specs.Refusals.{IsRefused}
use Rattle.pddl_file_lines.proofs.OneRefusal.{one_refused, no_domain_refused, no_problem_refused, no_plan_refused}
use Rattle.pddl_commands.specs.Formats.{IsPrinted, IsCanonical, IsFormatted}

-- ---- one canonical text

same_printed : {V : Type 0} (Spells : V → List ℕ → Type 0) (layout : V → List ℕ) (text printed other : List ℕ) → ((value found : V) → Spells value text → Spells found text → value ≡ found)
    → IsPrinted Spells layout text printed → IsPrinted Spells layout text other → printed ≡ other
same_printed Spells layout text printed other one p q = p.printed_is ∙ ap layout (one p.value q.value p.spells q.spells) ∙ sym q.printed_is

one_canonical : (kind : Kind) (text printed other : List ℕ) → IsCanonical kind text printed → IsCanonical kind text other → printed ≡ other
one_canonical Domain text printed other p q = same_printed SpellsDomain domain_text text printed other (one_domain text) p q
one_canonical Problem text printed other p q = same_printed SpellsProblem problem_text text printed other (one_problem text) p q
one_canonical Plan text printed other p q = same_printed SpellsPlan plan_text text printed other (one_plan text) p q

-- ---- one outcome

not_both : (kind : Kind) (text printed other : List ℕ) → IsCanonical kind text printed → IsRefused kind text other → ⊥
not_both Domain text printed other p = no_domain_refused text p.value other p.spells
not_both Problem text printed other p = no_problem_refused text p.value other p.spells
not_both Plan text printed other p = no_plan_refused text p.value other p.spells

pub one_outcome : (kind : Kind) (text printed other : List ℕ) (outcome ended : Outcome) → IsFormatted kind text printed outcome → IsFormatted kind text other ended → (printed ≡ other) × (outcome ≡ ended)
one_outcome kind text printed other Good Good p q = (one_canonical kind text printed other p q, refl)
one_outcome kind text printed other Good Refused p q = absurd (not_both kind text printed other p q)
one_outcome kind text printed other Refused Good p q = absurd (not_both kind text other printed q p)
one_outcome kind text printed other Refused Refused p q = (one_refused kind text printed other p q, refl)
one_outcome kind text printed other Good Invalid p bad = absurd bad
one_outcome kind text printed other Refused Invalid p bad = absurd bad
one_outcome kind text printed other Invalid ended bad q = absurd bad
