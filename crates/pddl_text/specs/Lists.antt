-- Lists of words: which items they form (lists are those of Kovacs, BNF definition of PDDL 3.1; the limit of levels is own),
-- and what is wrong where they form none (own).
use Rattle.std.specs.Prelude.{◌≡◌, ◌≢◌, ◌≤◌, ◌⊎◌, ℕ, zero, suc, List, [], ◌∷◌, ◌++◌, length}
use Rattle.pddl_token.specs.declared.token.TokenKind.TheVariants.{Open, Close}
use Rattle.pddl_token.specs.declared.token.Span.{Span}
use Rattle.pddl_scan.specs.declared.fault.TextFault.{TextFault}
use Rattle.pddl_scan.specs.declared.fault.TextFault.TheVariants as faults
use Rattle.pddl_token.specs.Spelling.{PlacedWord}
use Rattle.pddl_token.specs.Trees.{Placed, placed_leaf, placed_node, placed_of}

-- from an opening to a closing
abbrev pub span_over : PlacedWord → PlacedWord → Span
span_over opening closing = record { start = opening.span.start; end = closing.span.end }

-- The words form these items, in which lists stand at most so many levels deep.
pub data AreItems : ℕ → List PlacedWord → List Placed → Type 0 where
  none : {levels : ℕ} → AreItems levels [] []
  plain : {levels : ℕ} {words : List PlacedWord} {items : List Placed} (w : PlacedWord) → w.kind ≢ Open → w.kind ≢ Close
      → AreItems levels words items → AreItems levels (w ∷ words) (placed_leaf w ∷ items)
  nested : {levels : ℕ} {words : List PlacedWord} {items : List Placed} (opening closing : PlacedWord) (inner after : List PlacedWord) (children others : List Placed)
      → opening.kind ≡ Open → closing.kind ≡ Close → AreItems levels inner children → AreItems (suc levels) after others
      → words ≡ opening ∷ (inner ++ closing ∷ after) → items ≡ placed_node (span_over opening closing) (placed_of children) ∷ others → AreItems (suc levels) words items

-- the deepest level of a list
abbrev pub deepest : ℕ
deepest = 128

-- the words form some items
abbrev pub FormItems : List PlacedWord → Type 0
FormItems words = (items : List Placed) × AreItems deepest words items

-- so many openings among the words have no partner among them
pub data LeaveOpen : ℕ → List PlacedWord → Type 0 where
  none_open : {words : List PlacedWord} → FormItems words → LeaveOpen zero words
  one_more : {opened : ℕ} {words : List PlacedWord} (before : List PlacedWord) (opening : PlacedWord) (inner : List PlacedWord)
      → LeaveOpen opened before → opening.kind ≡ Open → FormItems inner → words ≡ before ++ opening ∷ inner → LeaveOpen (suc opened) words

-- a closing behind these words has no partner
abbrev pub IsUnopened : List PlacedWord → PlacedWord → Type 0
IsUnopened before w = (w.kind ≡ Close) × FormItems before

-- an opening behind these words stands too deep
abbrev pub IsTooDeep : List PlacedWord → PlacedWord → Type 0
IsTooDeep before w = (w.kind ≡ Open) × LeaveOpen deepest before

-- the word can't stand behind these words
abbrev pub IsMisplaced : List PlacedWord → PlacedWord → Type 0
IsMisplaced before w = IsUnopened before w ⊎ IsTooDeep before w

-- the fault is that of a word which starts at the place, and no word before it is misplaced
pub record IsFirstMisplaced (Fault : List PlacedWord → PlacedWord → Type 0) (words : List PlacedWord) (at : ℕ) : Type 0 where
  pub before : List PlacedWord
  pub here : PlacedWord
  pub after : List PlacedWord
  pub words_are : words ≡ before ++ here ∷ after
  pub starts_at : here.span.start ≡ at
  pub fault : Fault before here
  pub first : (front : List PlacedWord) (other : PlacedWord) (back : List PlacedWord) → words ≡ front ++ other ∷ back → IsMisplaced front other → length before ≤ length front

-- the leftmost opening without a partner starts at the place, and no word is misplaced
pub record IsUnclosed (words : List PlacedWord) (at : ℕ) : Type 0 where
  pub before : List PlacedWord
  pub opening : PlacedWord
  pub after : List PlacedWord
  pub words_are : words ≡ before ++ opening ∷ after
  pub is_opening : opening.kind ≡ Open
  pub starts_at : opening.span.start ≡ at
  -- each opening before it has its partner before it
  pub items : FormItems before
  pub no_partner : (inner : List PlacedWord) (closing : PlacedWord) (rest : List PlacedWord) → closing.kind ≡ Close → FormItems inner → after ≡ inner ++ closing ∷ rest → ⊥
  pub none_misplaced : (front : List PlacedWord) (other : PlacedWord) (back : List PlacedWord) → words ≡ front ++ other ∷ back → IsMisplaced front other → ⊥

-- what each answer of `lists` says of the words
abbrev pub ListStands : TextFault → List PlacedWord → Type 0
ListStands faults.Memory words = Unit {0}
ListStands (faults.Unopened at) words = IsFirstMisplaced IsUnopened words at
ListStands (faults.TooDeep at) words = IsFirstMisplaced IsTooDeep words at
ListStands (faults.Unclosed at) words = IsUnclosed words at
-- a text's faults are not of `lists`
ListStands faults.TooLong words = ⊥
ListStands (faults.Stray at) words = ⊥
ListStands (faults.Glued at) words = ⊥
ListStands (faults.NumberRange at) words = ⊥
ListStands faults.AlreadyFailed words = ⊥
