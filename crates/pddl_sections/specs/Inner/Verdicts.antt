-- Reading sections one after the other, with the keywords that were seen, for the readers above. What it means stands in Sections.
use Rattle.std.specs.Prelude.{List, [], ◌∷◌, ◌++◌, Bool, Option, Some, None, if◌then◌else◌}
use Rattle.pddl_token.specs.declared.token.Span.{Span}
use Rattle.pddl_token.specs.Trees.{Tree, Placed, erased}
use Rattle.pddl_items.specs.Items.{span_of}
use Rattle.pddl_sections.specs.Sections.{SectionFault, faulty, unsupported, twice, lists_in}

-- the readers of one section, and S, which keywords were seen
pub record Readers (P K W S : Type 0) : Type 0 where
  -- the value that a section spells
  pub part_at : Tree → Option P
  -- a section's keyword
  pub key_at : Tree → Option K
  -- in a section, the word by which a list is refused
  pub mark_at : Tree → Tree → Option W
  -- no keyword was seen
  pub nothing : S
  -- whether a keyword was seen that stands at most once
  pub has_seen : S → K → Bool
  -- what was seen, and this keyword
  pub with_seen : S → K → S

-- what the sections say: what was seen and their values, or the first fault
pub data Verdict (P K W S : Type 0) : Type 0 where
  fine : S → List P → Verdict P K W S
  bad : SectionFault K W → Verdict P K W S

-- what one section says: a fault, or a value and its keyword
pub data Turn (P K W : Type 0) : Type 0 where
  stop : SectionFault K W → Turn P K W
  go : P → K → Turn P K W

-- the word for a list, with its span, or else what the others have
abbrev pub mark_or : {W : Type 0} → Option W → Span → Option (W × Span) → Option (W × Span)
mark_or None span rest = rest
mark_or (Some word) span rest = Some (word, span)

-- the first list for which there is a word: that, and its span
abbrev pub first_mark : {W : Type 0} → (Tree → Option W) → List Placed → Option (W × Span)
first_mark mark [] = None
first_mark mark (q ∷ qs) = mark_or (mark (erased q)) (span_of q) (first_mark mark qs)

-- the fault of a section that spells no value, by its first list that is refused by name
abbrev pub refusal : {K W : Type 0} → Option (W × Span) → Span → SectionFault K W
refusal None span = faulty span
refusal (Some m) span = unsupported m.0 m.1

module _ {P K W S : Type 0} (readers : Readers P K W S) where
  -- the fault of a section that spells no value
  abbrev pub refused : Placed → SectionFault K W
  refused p = refusal (first_mark (readers.mark_at (erased p)) (lists_in p)) (span_of p)

  -- what a section says whose keyword was not seen before, by its value
  abbrev pub part_turn : Option P → K → Placed → Turn P K W
  part_turn None k p = stop (refused p)
  part_turn (Some x) k p = go x k

  -- what a section says behind others, by its keyword and its value
  abbrev pub key_turn : Option K → S → Option P → Placed → Turn P K W
  key_turn None seen part p = stop (refused p)
  key_turn (Some k) seen part p = if readers.has_seen seen k then stop (twice k (span_of p)) else part_turn part k p

  -- what a section says behind others
  abbrev pub turn : S → Placed → Turn P K W
  turn seen p = key_turn (readers.key_at (erased p)) seen (readers.part_at (erased p)) p

  -- the verdict after one section
  abbrev pub after_turn : Turn P K W → (P → K → Verdict P K W S) → Verdict P K W S
  after_turn (stop fault) next = bad fault
  after_turn (go x k) next = next x k

  -- the verdict on the sections that are left, behind those found and the keywords seen
  unfoldable pub verdict : S → List P → List Placed → Verdict P K W S
  verdict seen found [] = fine seen found
  verdict seen found (p ∷ ps) = after_turn (turn seen p) (λ x k. verdict (readers.with_seen seen k) (found ++ x ∷ []) ps)
