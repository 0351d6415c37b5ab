-- What is read of a text item by item, behind words up to a place. Own, from the words and the lists of a text.
use Rattle.std.specs.Prelude.{◌≡◌, ℕ, suc, List, [], ◌∷◌, ◌++◌, Option, Some, None}
use Rattle.pddl_token.specs.declared.token.TokenKind.TheVariants.{Close}
use Rattle.pddl_token.specs.Spelling.{PlacedWord, Spells}
use Rattle.pddl_token.specs.Trees.{Placed}
use Rattle.pddl_scan.specs.Faults.{AreValued}
use Rattle.pddl_scan.specs.Scanning.{LexedTo}
use Rattle.pddl_items.specs.Items.{item_view}
use Rattle.pddl_text.specs.Lists.{AreItems}
use Rattle.pddl_text.specs.declared.in_turn.NextItem.{NextItem}
use Rattle.pddl_text.specs.declared.in_turn.NextItem.TheVariants.{Item, End}

-- behind the words stands a closing that ends at a place, up to which the text is read; or nothing, and they are the text's
abbrev pub EndsAt : List ℕ → List PlacedWord → ℕ → Option ℕ → Type 0
EndsAt text words at (Some end) = (w : PlacedWord) × (w.kind ≡ Close) × (w.span.end ≡ end) × LexedTo text (words ++ w ∷ []) at
EndsAt text words at None = Spells words text × AreValued words

-- behind the words stands this item, whose lists are so many levels deep at most and up to whose end the text is read
abbrev pub ReadsItem : List ℕ → List PlacedWord → ℕ → ℕ → Placed → Type 0
ReadsItem text words levels at item = (more : List PlacedWord) × LexedTo text (words ++ more) at × AreItems levels more (item ∷ [])

-- an item stands there, or an end
abbrev pub ReadsOn : {A : _} → List ℕ → List PlacedWord → ℕ → ℕ → NextItem A → Type 0
ReadsOn text words levels at (Item item) = ReadsItem text words levels at (item_view item)
ReadsOn text words levels at (End end) = EndsAt text words at end

-- behind the words stand these items, and then an end
abbrev pub ReadsItems : List ℕ → List PlacedWord → ℕ → List Placed → ℕ → Option ℕ → Type 0
ReadsItems text words levels items at end = (more : List PlacedWord) × AreItems levels more items × EndsAt text (words ++ more) at end

-- behind the words, the last of which opens a list, stand its items, and its closing, which ends at a place; with its own level it is so many levels deep at most
abbrev pub ReadsList : List ℕ → List PlacedWord → ℕ → List Placed → ℕ → ℕ → Type 0
ReadsList text words levels items at end = (below : ℕ) × (suc below ≡ levels) × ReadsItems text words below items at (Some end)

-- something was read before the text's end
abbrev pub IfClosed : Type 0 → Option ℕ → Type 0
IfClosed P (Some end) = P
IfClosed P None = Unit {0}

abbrev pub IfRead : {A : _} → Type 0 → NextItem A → Type 0
IfRead P (Item item) = P
IfRead P (End end) = IfClosed P end
