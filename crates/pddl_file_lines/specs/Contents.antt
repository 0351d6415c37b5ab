-- What a command reads from a file. Own.
use Rattle.std.specs.Prelude.{◌≡◌, ◌⊎◌, ℕ, List, [], Bool, true, Option, Some, None}
use Rattle.pddl_scan.specs.declared.fault.TextFault.TheVariants as texts
use Rattle.pddl_text.specs.LineStarts.{line_starts}
use Rattle.pddl_domain.specs.Domains.{DomainValue}
use Rattle.pddl_domain_reader.specs.DomainTexts.{SpellsDomain}
use Rattle.pddl_plan.specs.Plans.{plan_view}
use Rattle.pddl_step_reader.specs.PlanTexts.{SpellsPlan}
use Rattle.pddl_plan_reader.specs.StandsForPlan.{StandsForPlan}
use Rattle.pddl_kind.specs.declared.Kind.{Kind}
use Rattle.pddl_kind.specs.declared.Kind.TheVariants as kinds
use Rattle.pddl_kind.specs.Kinds.{kind_word}
use Rattle.pddl_file_lines.specs.declared.plan_file.PlanFile.{PlanFile}
use Rattle.pddl_file_lines.specs.declared.plan_file.PlanContent.{PlanContent}
use Rattle.pddl_file_lines.specs.declared.plan_file.PlanContent.TheVariants.{Plan, Refused}
use Rattle.pddl_file_lines.specs.declared.reading.Content.{Content}
use Rattle.pddl_file_lines.specs.declared.reading.Content.TheVariants.{Text, TooLong}
use Rattle.pddl_file_lines.specs.Lines.{text_fault_name, IsFaultLine}
use Rattle.pddl_file_lines.specs.Refusals.{IsRefused}

-- the text is all that a reader has left to give, where that is known
abbrev pub IsLeft : Option (List ℕ) → List ℕ → Type 0
IsLeft None text = Unit {0}
IsLeft (Some known) text = text ≡ known

-- what a reader has left to give is known, and is no domain's text
abbrev pub IsNoDomain : Option (List ℕ) → Type 0
IsNoDomain remaining = (text : List ℕ) × (remaining ≡ Some text) × ((d : DomainValue) → ¬ SpellsDomain d text)

-- the line that refuses a file for its length
abbrev pub IsTooLongLine : Kind → List ℕ → Type 0
IsTooLongLine kind line = IsFaultLine (kind_word kind) [] (text_fault_name texts.TooLong) None line

-- A file was read up to its reader's end, or past the limit of length, as the line that is printed says.
abbrev pub IsRead : Kind → Bool → List ℕ → Type 0
IsRead kind at_end printed = (at_end ≡ true) ⊎ IsTooLongLine kind printed

-- all that the reader had left to give, up to its end; or a line that refuses all of that
abbrev pub IsContent : {B : _} → Kind → Option (List ℕ) → Bool → Content B → Type 0
IsContent kind remaining at_end (Text text) = IsLeft remaining text.items × (at_end ≡ true)
IsContent kind remaining at_end (TooLong line) = IsTooLongLine kind line.items × ((text : List ℕ) × IsLeft remaining text × IsRefused kind text line.items)

-- ---- plan files, of which no text is kept

-- a plan spells the text; or the line refuses it
abbrev pub IsPlanOf : {B : _} → List ℕ → PlanContent B → Type 0
IsPlanOf text (Plan plan) = SpellsPlan (plan_view plan) text
IsPlanOf text (Refused line) = IsRefused kinds.Plan text line.items

-- the plan of all that the reader had left to give, up to its end; or a line that refuses all of that
abbrev pub IsPlanContent : {B : _} → Option (List ℕ) → Bool → PlanContent B → Type 0
IsPlanContent remaining at_end (Plan plan) = ((text : List ℕ) × IsLeft remaining text × SpellsPlan (plan_view plan) text) × (at_end ≡ true)
IsPlanContent remaining at_end (Refused line) = IsRead kinds.Plan at_end line.items × ((text : List ℕ) × IsLeft remaining text × IsRefused kinds.Plan text line.items)

-- the pieces that have come make the text
abbrev pub IsPlanFile : {A : _} → PlanFile A → List ℕ → Type 0
IsPlanFile file text = StandsForPlan file.reader text × (file.places ≡ line_starts text)

-- all has come that a reader had left to give
abbrev pub HasCome : {A : _} → PlanFile A → Option (List ℕ) → Type 0
HasCome file remaining = (text : List ℕ) × IsLeft remaining text × IsPlanFile file text
