-- A text has one list of items.
use Rattle.std.proofs.Common.{◌≡◌, ℕ, List, map, sym, ap, subst, ◌∙◌}
use Rattle.pddl_token.specs.Spelling.{PlacedWord, Spells}
use Rattle.pddl_token.specs.Trees.{Tree, Placed, erased}
use Rattle.pddl_text.specs.Lists.{AreItems}
use Rattle.pddl_text.specs.Texts.{HasItems, ReadsAs}
use Rattle.pddl_scan.proofs.Lexed.{one_spelling}
use Rattle.pddl_text.proofs.Nests.{one_nesting}

-- the items are those of any words that spell the text
pub items_form : (text : List ℕ) (words : List PlacedWord) (items : List Placed) → Spells words text → HasItems text items → AreItems 128 words items
items_form text words items spells has = subst (λ (ws : List PlacedWord). AreItems 128 ws items) (one_spelling has.words words text has.spells spells) has.form

-- two lists of items of one text are one
pub one_items : (text : List ℕ) (items others : List Placed) → HasItems text items → HasItems text others → items ≡ others
one_items text items others p q = one_nesting p.words items others p.form (items_form text p.words others p.spells q)

-- and so two lists of trees
pub one_reading : (text : List ℕ) (trees others : List Tree) → ReadsAs text trees → ReadsAs text others → trees ≡ others
one_reading text trees others p q = sym p.trees_are ∙ ap (map erased) (one_items text p.items q.items p.has q.has) ∙ q.trees_are
