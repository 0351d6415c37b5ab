-- What the code that reads sections answers, from one section to the whole file, for any readers of sections.
use Rattle.std.proofs.Common.{◌≡◌, ℕ, ◌<◌, ◌≤◌, Bool, true, false, List, [], ◌∷◌, length, get_or, drop, Option, Some, None, Ok, Err, sym, ap, ◌∙◌}
use Rattle.std.specs.Prelude.{if◌then◌else◌}
use Rattle.pddl_token.specs.declared.token.Span.{Span}
use Rattle.pddl_items.specs.declared.item.Item.{Item}
use Rattle.pddl_token.specs.Trees.{Placed}
use Rattle.pddl_items.specs.Items.{item_view, items_view, span_of}
use Rattle.pddl_items.specs.ItemTrees.{item_tree}
use Rattle.pddl_sections.specs.Sections.{SectionFault, faulty, unsupported, twice}
use Rattle.pddl_sections.specs.Files.{IsOpened, HeadFault}
use Rattle.pddl_sections.specs.Inner.Verdicts.{Readers, Turn, stop, go, Verdict, fine, bad, turn, refused, verdict}
use Rattle.pddl_sections.specs.Inner.Answers.{Answer, right, first_missing, missing_answer, sections_answer, opened_answer, file_answer}
use Rattle.pddl_sections.proofs.FileLaws.{opened_is}
use Rattle.pddl_sections.proofs.Turns.{verdict_end, verdict_stop, no_key_turn, twice_turn, unfit_turn, fit_turn}
use Rattle.pddl_file.specs.Inner.FileReading.{IsFaultAt, StopsAt, RefusesSections, RefusesFile}
use Rattle.pddl_file.specs.declared.keyword.SectionKeyword.{SectionKeyword}
use Rattle.pddl_file.specs.declared.mark.Mark.{Mark}
use Rattle.pddl_file.specs.declared.fault.FileFault.{FileFault}
use Rattle.pddl_file.specs.declared.fault.FileFault.TheVariants as faults

-- ---- from the fault of a section to the fault of the file

-- a turn stops at the fault of its section
pub stops_at : {P : Type 0} (fault : FileFault) (what : SectionFault SectionKeyword Mark) (t : Turn P SectionKeyword Mark) → IsFaultAt fault what → t ≡ stop what → StopsAt fault t
stops_at (faults.Text text) what t e is = e
stops_at (faults.Section span near) what t (e, at) is = (is ∙ ap (λ w. stop w) e, at)
stops_at (faults.Unsupported mark span) what t e is = is ∙ ap (λ w. stop w) e
stops_at (faults.Twice key span) what t e is = is ∙ ap (λ w. stop w) e
stops_at (faults.Head span) what t none is = absurd none
stops_at (faults.Missing key) what t none is = absurd none

-- what a turn stops at is the first fault of the sections, where the verdict is bad by it
pub refuses_sections : {P S : Type 0} (fault : FileFault) (t : Turn P SectionKeyword Mark) (v : Verdict P SectionKeyword Mark S) → StopsAt fault t
    → ((what : SectionFault SectionKeyword Mark) → t ≡ stop what → v ≡ bad what) → RefusesSections fault v
refuses_sections (faults.Text text) t v e ends = e
refuses_sections (faults.Section span near) t v (e, at) ends = (ends (faulty span) e, at)
refuses_sections (faults.Unsupported mark span) t v e ends = ends (unsupported mark span) e
refuses_sections (faults.Twice key span) t v e ends = ends (twice key span) e
refuses_sections (faults.Head span) t v none ends = absurd none
refuses_sections (faults.Missing key) t v none ends = absurd none

-- ---- one section

module _ {A P S : Type 0} (readers : Readers P SectionKeyword Mark S) (seen : S) (item : Item A) where
  -- what the section says behind those seen
  abbrev Says : Turn P SectionKeyword Mark
  Says = turn readers seen (item_view item)

  -- it has no keyword
  pub no_key_stops : (fault : FileFault) → None ≡ readers.key_at (item_tree item) → IsFaultAt fault (refused readers (item_view item)) → StopsAt fault Says
  no_key_stops fault none is = stops_at fault (refused readers (item_view item)) Says is (no_key_turn readers seen item none)

  module _ (key : SectionKeyword) (has : Some key ≡ readers.key_at (item_tree item)) where
    -- its keyword stood
    pub twice_stops : (span : Span) → true ≡ readers.has_seen seen key → span ≡ span_of (item_view item) → StopsAt (faults.Twice key span) Says
    twice_stops span e at = twice_turn readers seen item key has (sym e) ∙ ap (λ s. stop (twice key s)) (sym at)

    -- it spells no value
    pub unfit_stops : (fault : FileFault) → false ≡ readers.has_seen seen key → None ≡ readers.part_at (item_tree item)
        → IsFaultAt fault (refused readers (item_view item)) → StopsAt fault Says
    unfit_stops fault e none is = stops_at fault (refused readers (item_view item)) Says is (unfit_turn readers seen item key has (sym e) (sym none))

    -- it fits
    pub section_goes : (x : P) → false ≡ readers.has_seen seen key → Some x ≡ readers.part_at (item_tree item) → Says ≡ go x key
    section_goes x e some = fit_turn readers seen item key has x (sym e) (sym some)

-- ---- one section after the other

module _ {A P S : Type 0} (readers : Readers P SectionKeyword Mark S) (seen : S) (found : List P) (xs : List (Item A)) (i : ℕ) (whole : Verdict P SectionKeyword Mark S)
    (so_far : verdict readers seen found (items_view (drop i xs)) ≡ whole) where
  -- no section is left
  pub sections_end : length xs ≤ i → whole ≡ fine seen found
  sections_end past = sym so_far ∙ verdict_end readers seen found xs i past

  module _ (item : Item A) (below : i < length xs) (at : item ≡ get_or xs i item) where
    -- what this section says, by its place
    at_place : (t : Turn P SectionKeyword Mark) → turn readers seen (item_view item) ≡ t → turn readers seen (item_view (get_or xs i item)) ≡ t
    at_place t e = ap (λ it. turn readers seen (item_view it)) (sym at) ∙ e

    -- this section is refused
    pub sections_stop : (fault : FileFault) → StopsAt fault (turn readers seen (item_view item)) → RefusesSections fault whole
    sections_stop fault stops =
        refuses_sections fault (turn readers seen (item_view item)) whole stops
        (λ what e. verdict_stop readers seen found xs i item whole below what (at_place (stop what) e) so_far)

-- ---- keywords that are required

-- it is missing
pub missing_here : {K : Type 0} (has : K → Bool) (k : K) (ks : List K) → false ≡ has k → first_missing has (k ∷ ks) ≡ Some k
missing_here has k ks e = ap (λ (b : Bool). if b then first_missing has ks else Some k) (sym e)

-- it stands
pub missing_later : {K : Type 0} (has : K → Bool) (k : K) (ks : List K) → true ≡ has k → first_missing has (k ∷ ks) ≡ first_missing has ks
missing_later has k ks e = ap (λ (b : Bool). if b then first_missing has ks else Some k) (sym e)

-- ---- the file

module _ {P S : Type 0} (readers : Readers P SectionKeyword Mark S) (word : List ℕ) (required : List SectionKeyword) (items : List Placed) where
  -- the answer for the items
  abbrev Answered : Answer P SectionKeyword Mark
  Answered = file_answer readers word required items

  -- the items open no file
  pub head_refused : (span : Span) → HeadFault word items span → RefusesFile (faults.Head span) Answered
  head_refused span is = ap (opened_answer readers word required) (opened_is word items (Err span) is)

  module _ (name : List ℕ) (sections : List Placed) (is : IsOpened word name sections items) where
    -- what the sections say
    abbrev Told : Verdict P SectionKeyword Mark S
    Told = verdict readers readers.nothing [] sections

    -- the file is answered by its sections
    pub answered_by_sections : Answered ≡ sections_answer readers word required name Told
    answered_by_sections = ap (opened_answer readers word required) (opened_is word items (Ok (name, sections)) is)

    -- the fault of its sections is that of the file
    pub sections_refused : (fault : FileFault) → RefusesSections fault Told → RefusesFile fault Answered
    sections_refused (faults.Text text) e = e
    sections_refused (faults.Section span near) (e, at) = (answered_by_sections ∙ ap (sections_answer readers word required name) e, at)
    sections_refused (faults.Unsupported mark span) e = answered_by_sections ∙ ap (sections_answer readers word required name) e
    sections_refused (faults.Twice key span) e = answered_by_sections ∙ ap (sections_answer readers word required name) e
    sections_refused (faults.Head span) none = absurd none
    sections_refused (faults.Missing key) none = absurd none

    module _ (seen : S) (parts : List P) (told : Told ≡ fine seen parts) where
      answered_by_missing : (o : Option SectionKeyword) → first_missing (readers.has_seen seen) required ≡ o → Answered ≡ missing_answer readers word required name parts o
      answered_by_missing o e = answered_by_sections ∙ ap (sections_answer readers word required name) told ∙ ap (missing_answer readers word required name parts) e

      -- a keyword is missing
      pub missing_refused : (key : SectionKeyword) → first_missing (readers.has_seen seen) required ≡ Some key → RefusesFile (faults.Missing key) Answered
      missing_refused key e = answered_by_missing (Some key) e

      -- none is missing
      pub file_right : first_missing (readers.has_seen seen) required ≡ None → Answered ≡ right name parts
      file_right e = answered_by_missing None e
