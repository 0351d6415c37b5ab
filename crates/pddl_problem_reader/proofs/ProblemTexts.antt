-- A text is one problem or has one fault, and the slots that are filled from its sections make up the problem.
use Rattle.std.proofs.Common.{◌≡◌, ℕ, List, [], ◌∷◌, Option, Some, None, Result, Ok, Err, refl, sym, ap, ◌∙◌, codes}
use Rattle.std.specs.Prelude.{◌≢◌, IfOk, option_to_list}
use Rattle.std.specs.List.{flat_map}
use Rattle.pddl_scan.specs.declared.fault.TextFault.TheVariants.{Memory}
use Rattle.pddl_token.specs.Trees.{Placed}
use Rattle.pddl_text.specs.Texts.{HasItems}
use Rattle.pddl_text.proofs.TextItems.{one_items}
use Rattle.pddl_sections.specs.Sections.{AllOf}
use Rattle.pddl_sections.specs.Files.{IsOpened}
use Rattle.pddl_sections.specs.Inner.Verdicts.{verdict}
use Rattle.pddl_sections.specs.Inner.Answers.{Answer, right, first_missing, file_answer}
use Rattle.pddl_sections.proofs.FileLaws.{one_file}
use Rattle.pddl_file.specs.declared.keyword.SectionKeyword.{SectionKeyword}
use Rattle.pddl_file.specs.declared.mark.Mark.{Mark}
use Rattle.pddl_file.specs.declared.fault.FileFault.{FileFault}
use Rattle.pddl_file.specs.declared.fault.FileFault.TheVariants as faults
use Rattle.pddl_file.specs.Keywords.{IsSingle}
use Rattle.pddl_file.specs.Inner.WordReading.{nothing_seen}
use Rattle.pddl_file.specs.Inner.FileReading.{RefusesFile}
use Rattle.pddl_file.proofs.SectionTurns.{missing_refused, sections_refused, file_right}
use Rattle.pddl_file.proofs.FileTexts as texts
use Rattle.pddl_problem.specs.Problems.{ProblemValue}
use Rattle.pddl_problem_reader.specs.ProblemTexts.{Part, problem_rules, required, AreProblem, SpellsProblem, ProblemStands}
use Rattle.pddl_problem_reader.specs.Inner.ProblemReading.{problem_readers}
use Rattle.pddl_problem_reader.specs.Inner.Slots.{SlotsValue, HoldVerdict, MakesUp, has_slot, SaysMissing, Refuses, wrong, lacking}
use Rattle.pddl_problem_reader.specs.Inner.OnePass.{HoldsFile}
use Rattle.pddl_problem_reader.proofs.PartLaws.{problem_law}
use Rattle.pddl_problem_reader.proofs.SlotLaws.{slot_list, slot_some, missing_same}

-- what is answered for items
abbrev pub Answered : List Placed → Answer Part SectionKeyword Mark
Answered items = file_answer problem_readers (codes "problem") required items

once : AllOf IsSingle required
once = (tt, (tt, (tt, tt)))

-- ---- what the code makes up

module _ (items : List Placed) (name : List ℕ) (sections : List Placed) (is : IsOpened (codes "problem") name sections items) (s : SlotsValue)
    (told : HoldVerdict s (verdict problem_readers nothing_seen [] sections)) where
  -- the slots make up the problem that the items are
  pub made_problem : (p : ProblemValue) → MakesUp s name p → AreProblem p items
  made_problem p m =
      let none : first_missing (has_slot s) required ≡ None = rw (m.domain_is, m.init_is, m.goal_is) refl in
      let read : Answered items ≡ right p.name told.parts =
      file_right problem_readers (codes "problem") required items name sections is told.seen told.parts told.is (missing_same told.seen s told.parts told.hold ∙ none)
      ∙ ap (λ n. right n told.parts) (sym m.name_is) in
      record {
        parts = told.parts;
        file = texts.is_file problem_rules problem_readers problem_law (codes "problem") required once items p.name told.parts read;
        domain_is = slot_some told.seen.domain s.domain _ _ told.hold.domain m.domain_is;
        requirements_are = m.requirements_are ∙ slot_list told.seen.requirements s.requirements _ told.hold.requirements;
        objects_are = m.objects_are ∙ slot_list told.seen.objects s.objects _ told.hold.objects;
        init_is = sym (slot_some told.seen.init s.init _ _ told.hold.init m.init_is);
        goal_is = slot_some told.seen.goal s.goal _ _ told.hold.goal m.goal_is;
        metric_is = sym (slot_list told.seen.metric s.metric _ told.hold.metric) ∙ m.metric_is;
      }

  -- a required section is missing
  made_missing : (fault : FileFault) → SaysMissing fault s → RefusesFile fault (Answered items)
  made_missing (faults.Missing key) e =
      missing_refused problem_readers (codes "problem") required items name sections is told.seen told.parts told.is key (missing_same told.seen s told.parts told.hold ∙ e)
  made_missing (faults.Text t) none = absurd none
  made_missing (faults.Head span) none = absurd none
  made_missing (faults.Section span near) none = absurd none
  made_missing (faults.Unsupported mark span) none = absurd none
  made_missing (faults.Twice key span) none = absurd none

-- what the sections are refused for, the file is
pub sections_fail : (items : List Placed) (name : List ℕ) (sections : List Placed) → IsOpened (codes "problem") name sections items → (fault : FileFault)
    → Refuses fault (verdict problem_readers nothing_seen [] sections) → RefusesFile fault (Answered items)
sections_fail items name sections is fault (wrong refused) = sections_refused problem_readers (codes "problem") required items name sections is fault refused
sections_fail items name sections is fault (lacking s told says) = made_missing items name sections is s told fault says

-- ---- one problem

option_list_same : {X : Type 0} (o p : Option X) → option_to_list o ≡ option_to_list p → o ≡ p
option_list_same None None e = refl
option_list_same None (Some y) e = absurd (cc)
option_list_same (Some x) None e = absurd (cc)
option_list_same (Some x) (Some y) e = cc

head_same : {X : Type 0} (x y : X) → x ∷ [] ≡ y ∷ [] → x ≡ y
head_same x y e = cc

-- the same sections are the same problem
same_problem : (p q : ProblemValue) (items : List Placed) (a : AreProblem p items) (b : AreProblem q items) → p.name ≡ q.name → a.parts ≡ b.parts → p ≡ q
same_problem p q items a b name parts =
    let domain : p.domain ≡ q.domain = head_same p.domain q.domain (sym a.domain_is ∙ ap (flat_map _) parts ∙ b.domain_is) in
    let requirements : p.requirements ≡ q.requirements = a.requirements_are ∙ ap (flat_map _) parts ∙ sym b.requirements_are in
    let objects : p.objects ≡ q.objects = a.objects_are ∙ ap (flat_map _) parts ∙ sym b.objects_are in
    let init : p.init ≡ q.init = a.init_is ∙ ap (flat_map _) parts ∙ sym b.init_is in
    let goal : p.goal ≡ q.goal = head_same p.goal q.goal (sym a.goal_is ∙ ap (flat_map _) parts ∙ b.goal_is) in
    let metric : p.metric ≡ q.metric = option_list_same p.metric q.metric (sym a.metric_is ∙ ap (flat_map _) parts ∙ b.metric_is) in
    λ i. record { name = name i; domain = domain i; requirements = requirements i; objects = objects i; init = init i; goal = goal i; metric = metric i }

one_of_items : (items : List Placed) (p q : ProblemValue) → AreProblem p items → AreProblem q items → p ≡ q
one_of_items items p q a b =
    let same = one_file problem_rules problem_readers problem_law (codes "problem") required once items p.name q.name a.parts b.parts a.file b.file in
    same_problem p q items a b same.0 same.1

-- At most one problem spells a text.
pub one_problem : (text : List ℕ) (p q : ProblemValue) → SpellsProblem p text → SpellsProblem q text → p ≡ q
one_problem text p q a b =
    let same : a.items ≡ b.items = one_items text a.items b.items a.has b.has in
    one_of_items b.items p q (rw (sym same) a.problem_is) b.problem_is

-- A text has at most one fault, neither of two being want of memory.
pub one_fault : (text : List ℕ) (fault other : FileFault) → ProblemStands fault text → ProblemStands other text
    → fault ≢ faults.Text Memory → other ≢ faults.Text Memory → fault ≡ other
one_fault = texts.one_fault problem_rules problem_readers problem_law (codes "problem") required once

-- A text that a problem spells has no fault.
pub no_fault : (text : List ℕ) (fault : FileFault) (p : ProblemValue) → ProblemStands fault text → SpellsProblem p text → fault ≡ faults.Text Memory
no_fault text fault p stands spells =
    texts.no_fault problem_rules problem_readers problem_law (codes "problem") required once text fault spells.items p.name spells.problem_is.parts stands spells.has spells.problem_is.file

pub spells_text : (text : List ℕ) (items : List Placed) (p : ProblemValue) → HasItems text items → AreProblem p items → SpellsProblem p text
spells_text text items p has are = record { items = items; has = has; problem_is = are }

-- the problem of a name and slots that were read in one pass
pub made_in_one : {V E : Type 0} (text : List ℕ) (s : SlotsValue) (named : Result (List ℕ) E) (view : V → ProblemValue) (r : Result V E) → IfOk named (λ n. HoldsFile n text s)
    → IfOk r (λ p. (n : List ℕ) × (named ≡ Ok n) × MakesUp s n (view p)) → IfOk r (λ p. SpellsProblem (view p) text)
made_in_one text s named view (Ok p) held (n, is, makes) =
    let file = rw is at held in
    spells_text text file.items (view p) file.has (made_problem file.items n file.sections file.opened s file.hold (view p) makes)
made_in_one text s named view (Err e) held made = tt

-- ---- what the code refuses

-- it stands in the text
pub refused_stands : (fault : FileFault) (text : List ℕ) (items : List Placed) → HasItems text items → RefusesFile fault (Answered items) → ProblemStands fault text
refused_stands = texts.refused_stands problem_rules problem_readers problem_law (codes "problem") required once

-- it is want of memory where a problem spells the text
pub refused_only : (fault : FileFault) (text : List ℕ) (items : List Placed) (p : ProblemValue) → HasItems text items → SpellsProblem p text
    → RefusesFile fault (Answered items) → fault ≡ faults.Text Memory
refused_only fault text items p has spells refused = no_fault text fault p (refused_stands fault text items has refused) spells
