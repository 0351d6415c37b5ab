-- Files that are read section by section.
use Rattle.std.proofs.Common.{◌≡◌, ℕ, ◌≤◌, true, List, [], ◌∷◌, ◌++◌, length, Option, Some, Result, Ok, Err, refl, sym, ap, subst, ◌∙◌, codes}
use Rattle.std.specs.Prelude.{◌≢◌, IfOk}
use Rattle.std.specs.Cmp.Lexicographic.{bytes_decides}
use Rattle.pddl_token.specs.Names.{folded, name_of}
use Rattle.pddl_token.specs.declared.token.TokenKind.TheVariants.{Open, Close, Name}
use Rattle.pddl_token.specs.Spelling.{PlacedWord, Spells}
use Rattle.pddl_token.specs.Trees.{Placed, placed_leaf, placed_node, placed_of, erased}
use Rattle.pddl_scan.specs.Scanning.{LexedTo}
use Rattle.pddl_items.specs.Inner.TreeReading.{is_word_at, word_by}
use Rattle.pddl_items.proofs.TreeLists.{items_back}
use Rattle.pddl_text.specs.Lists.{AreItems, span_over, none, plain, nested}
use Rattle.pddl_text.specs.Texts.{HasItems}
use Rattle.pddl_text.proofs.Nests.{items_append}
use Rattle.pddl_sections.specs.Files.{IsOpened}
use Rattle.pddl_sections.specs.Inner.Answers.{opening_of, opening_at}
use Rattle.pddl_sections.proofs.FileLaws.{opens_sound}
use Rattle.pddl_file.specs.declared.keyword.SectionKeyword.{SectionKeyword}
use Rattle.pddl_file.specs.declared.keyword.Seen.{Seen}
use Rattle.pddl_file.specs.Inner.WordReading.{with_seen}
use Rattle.pddl_file.specs.Inner.Begun.{HasBegun, words_of, ReadsTurn}

-- a word of a kind is no parenthesis
no_open : (w : PlacedWord) → w.kind ≡ Name → w.kind ≢ Open
no_open w is e = absurd (cc (is, e))

no_close : (w : PlacedWord) → w.kind ≡ Name → w.kind ≢ Close
no_close w is e = absurd (cc (is, e))

-- a name that is this word, letter case aside
is_word : (w : PlacedWord) (word : List ℕ) → w.kind ≡ Name → folded w.text ≡ word → is_word_at word (erased (placed_leaf w)) ≡ true
is_word w word is same = ap (λ kind. word_by kind w.text word) is ∙ (bytes_decides (folded w.text) word).1 same

-- `(define (WORD NAME)`, word by word
pub begins : (word name text : List ℕ) (at : ℕ) (opening define second kind named closing : PlacedWord) → opening.kind ≡ Open → define.kind ≡ Name → folded define.text ≡ codes "define" → second.kind ≡ Open
    → kind.kind ≡ Name → folded kind.text ≡ word → named.kind ≡ Name → name_of named.text ≡ Some name → closing.kind ≡ Close
    → LexedTo text (opening ∷ define ∷ second ∷ kind ∷ named ∷ closing ∷ []) at → HasBegun word name text [] at
begins word name text at opening define second kind named closing is_open define_kind define_is second_open kind_kind kind_is named_kind name_is is_close lexed =
    let inside : List Placed = placed_leaf kind ∷ placed_leaf named ∷ [] in
    let naming : AreItems 126 (kind ∷ named ∷ []) inside =
    plain kind (no_open kind kind_kind) (no_close kind kind_kind) (plain named (no_open named named_kind) (no_close named named_kind) none) in
    record {
      opening = opening;
      is_open = is_open;
      inner = define ∷ second ∷ kind ∷ named ∷ closing ∷ [];
      first = placed_leaf define;
      title = placed_node (span_over second closing) (placed_of inside);
      lexed = lexed;
      form = plain define (no_open define define_kind) (no_close define define_kind) (nested {levels = 126} second closing (kind ∷ named ∷ []) [] inside [] second_open is_close naming none refl refl);
      is_define = is_word define (codes "define") define_kind define_is;
      is_title = rw (is_word kind word kind_kind kind_is, named_kind) name_is;
    }

module _ {word name text : List ℕ} {sections : List Placed} {at : ℕ} (begun : HasBegun word name text sections at) where
  -- one more section
  pub begun_on : (more : List PlacedWord) (p : Placed) (next : ℕ) → LexedTo text (words_of begun ++ more) next → AreItems 127 more (p ∷ []) → HasBegun word name text (sections ++ p ∷ []) next
  begun_on more p next lexed form = record {
    opening = begun.opening;
    is_open = begun.is_open;
    inner = begun.inner ++ more;
    first = begun.first;
    title = begun.title;
    lexed = lexed;
    form = items_append begun.form more (p ∷ []) form;
    is_define = begun.is_define;
    is_title = begun.is_title;
  }

  -- the file ends behind these
  pub begun_ends : (closing : PlacedWord) (next : ℕ) → closing.kind ≡ Close → LexedTo text (words_of begun ++ closing ∷ []) next → Spells (words_of begun ++ closing ∷ []) text → length text ≤ 16777216
      → (items : List Placed) × HasItems text items × IsOpened word name sections items
  begun_ends closing next is_close lexed spells within =
      let inside : List Placed = begun.first ∷ begun.title ∷ sections in
      let file : Placed = placed_node (span_over begun.opening closing) (placed_of inside) in
      let opens : opening_at word file ≡ Some (name, sections) = ap (opening_of word) (items_back inside) ∙ rw (begun.is_define, begun.is_title) refl in (
        file ∷ [],
        record {
          words = words_of begun ++ closing ∷ [];
          within = within;
          spells = spells;
          valued = lexed.valued;
          form = nested {levels = 127} begun.opening closing begun.inner [] inside [] begun.is_open is_close begun.form none refl refl;
        },
        record { file = file; only = refl; opens = opens_sound word file (name, sections) opens },
      )

-- a section that was read as an item
pub section_read : {E : Type 0} (Holds : Placed → SectionKeyword → Type 0) (Kept : Type 0) (text : List ℕ) (words more : List PlacedWord) (at : ℕ) (seen : Seen) (p : Placed) (r : Result (Option Seen) E)
    → LexedTo text (words ++ more) at → AreItems 127 more (p ∷ []) → IfOk r (λ next. (key : SectionKeyword) × Holds p key × (next ≡ Some (with_seen seen key))) → IfOk r (ReadsTurn Holds Kept text words at seen)
section_read Holds Kept text words more at seen p (Ok next) lexed form (key, holds, is) =
    subst (ReadsTurn Holds Kept text words at seen) (sym is) (record { more = more; section = p; key = key; lexed = lexed; form = form; holds = holds; next_is = refl })
section_read Holds Kept text words more at seen p (Err e) lexed form kept = tt
