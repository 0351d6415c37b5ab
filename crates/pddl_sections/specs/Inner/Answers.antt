-- Reading a whole file. No public contract names these.
use Rattle.std.specs.Prelude.{ℕ, List, [], ◌∷◌, Bool, Option, Some, None, Result, Ok, Err, if◌then◌else◌, option_map, codes}
use Rattle.pddl_token.specs.declared.token.Span.{Span}
use Rattle.pddl_token.specs.Trees.{Tree, leaf, node, list_of, Placed, placed_leaf, placed_node, erased}
use Rattle.pddl_items.specs.Inner.TreeReading.{is_word_at, name_at, placed_items}
use Rattle.pddl_items.specs.Items.{span_of}
use Rattle.pddl_sections.specs.Inner.Verdicts.{Readers, Verdict, fine, bad, verdict}
use Rattle.pddl_sections.specs.Files.{FileFault, head, at_section, missing}

-- the name in `WORD NAME`
abbrev pub title_of : List ℕ → List Tree → Option (List ℕ)
title_of word (first ∷ second ∷ []) = if is_word_at word first then name_at second else None
title_of word _ = None

-- the name in `(WORD NAME)`
abbrev pub title_at : List ℕ → Tree → Option (List ℕ)
title_at word (leaf w) = None
title_at word (node ts) = title_of word (list_of ts)

-- the name and the sections in `define (WORD NAME) section*`
abbrev pub opening_of : List ℕ → List Placed → Option (List ℕ × List Placed)
opening_of word (first ∷ title ∷ sections) =
    if is_word_at (codes "define") (erased first) then option_map (λ name. (name, sections)) (title_at word (erased title)) else None
opening_of word _ = None

-- the name and the sections in `(define (WORD NAME) section*)`
abbrev pub opening_at : List ℕ → Placed → Option (List ℕ × List Placed)
opening_at word (placed_leaf w) = None
opening_at word (placed_node span items) = opening_of word (placed_items items)

-- what is there, or a fault at this place
abbrev pub opened_or : Span → Option (List ℕ × List Placed) → Result (List ℕ × List Placed) Span
opened_or span None = Err span
opened_or span (Some o) = Ok o

-- the fault where more than one item stands
abbrev pub none_behind : Option (List ℕ × List Placed) → Placed → Placed → Result (List ℕ × List Placed) Span
none_behind None first second = Err (span_of first)
none_behind (Some o) first second = Err (span_of second)

-- the name and the sections of a file, or the place of its fault
abbrev pub opened : List ℕ → List Placed → Result (List ℕ × List Placed) Span
opened word [] = Err (record { start = 0; end = 0 })
opened word (first ∷ []) = opened_or (span_of first) (opening_at word first)
opened word (first ∷ second ∷ rest) = none_behind (opening_at word first) first second

-- what is answered for a file: its name and its sections' values, or its first fault
pub data Answer (P K W : Type 0) : Type 0 where
  right : List ℕ → List P → Answer P K W
  wrong : FileFault K W → Answer P K W

-- the first keyword that was not seen
abbrev pub first_missing : {K : Type 0} → (K → Bool) → List K → Option K
first_missing has [] = None
first_missing has (k ∷ ks) = if has k then first_missing has ks else Some k

module _ {P K W S : Type 0} (readers : Readers P K W S) (word : List ℕ) (required : List K) where
  -- the answer where the sections are right, by the first keyword that is missing
  abbrev pub missing_answer : List ℕ → List P → Option K → Answer P K W
  missing_answer name parts None = right name parts
  missing_answer name parts (Some k) = wrong (missing k)

  -- the answer by the verdict on the sections
  abbrev pub sections_answer : List ℕ → Verdict P K W S → Answer P K W
  sections_answer name (fine seen parts) = missing_answer name parts (first_missing (readers.has_seen seen) required)
  sections_answer name (bad fault) = wrong (at_section fault)

  -- the answer by the name and the sections, or the place where they are missing
  abbrev pub opened_answer : Result (List ℕ × List Placed) Span → Answer P K W
  opened_answer (Ok o) = sections_answer o.0 (verdict readers readers.nothing [] o.1)
  opened_answer (Err span) = wrong (head span)

  -- the answer for the items of a file
  abbrev pub file_answer : List Placed → Answer P K W
  file_answer items = opened_answer (opened word items)
