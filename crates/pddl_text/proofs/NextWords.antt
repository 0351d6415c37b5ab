-- Words that are read one by one.
use Rattle.std.proofs.Common.{◌≡◌, ℕ, ◌+◌, ◌<◌, List, [], ◌∷◌, length, take, drop, get_or, refl, sym, subst, suc, drop-cons, arith}
use Rattle.pddl_token.specs.declared.token.TokenKind.{TokenKind}
use Rattle.pddl_token.specs.declared.token.TokenKind.TheVariants.{Name, Number}
use Rattle.pddl_token.specs.Names.{IsFrontName}
use Rattle.pddl_token.specs.Spelling.{PlacedWord}
use Rattle.pddl_token.specs.Trees.{placed_leaf, erased}
use Rattle.pddl_token.specs.TreeWords.{SpellsName, SpellsNumber}
use Rattle.pddl_items.proofs.Readers.{name_of_some}
use Rattle.pddl_scan.specs.Inner.Reading.{IsNumberAt, IsWordAt, Reads, next_of, next_by}
use Rattle.pddl_scan.specs.Scanning.{LexedTo}
use Rattle.pddl_scan.proofs.Classes.{class_of_letter}
use Rattle.pddl_scan.proofs.NextReads.{next_reads}
use Rattle.pddl_scan.proofs.Lexed.{word_lexed}
use Rattle.pddl_text.specs.Inner.NextWords.{IsSign, ReadsName, ReadsNumber, ReadsSign}

-- a name is a word
name_here : (text name : List ℕ) (len : ℕ) → IsFrontName text name len → IsWordAt Name len text
unfolding next_of next_by
name_here [] name len front = absurd (cc front.letter)
name_here (b ∷ bytes) name len front =
    subst (λ n. IsWordAt Name n (b ∷ bytes)) (sym front.len_is) (subst (λ class. Reads (next_by class (b ∷ bytes)) (b ∷ bytes)) (class_of_letter b front.letter) (next_reads (b ∷ bytes) (omega arith)))

pub name_lexed : (text : List ℕ) (words : List PlacedWord) (at len : ℕ) (name : List ℕ) → LexedTo text words at → IsFrontName (drop at text) name len → ReadsName text words (at + len) name
name_lexed text words at len name lexed front =
    let w : PlacedWord = record { kind = Name; text = take len (drop at text); span = record { start = at; end = at + len } } in
    let (good, folds) = name_of_some w.text name front.name_is in
    let spells : SpellsName name (erased (placed_leaf w)) = (good, (refl, folds)) in
    (w, spells, word_lexed text words at len Name w.text lexed (name_here (drop at text) name len front) refl)

-- so is a number
pub number_lexed : (text : List ℕ) (words : List PlacedWord) (at len number : ℕ) → LexedTo text words at → IsNumberAt (drop at text) number len → ReadsNumber text words (at + len) number
number_lexed text words at len number lexed (here, valued) =
    let w : PlacedWord = record { kind = Number; text = take len (drop at text); span = record { start = at; end = at + len } } in
    let spells : SpellsNumber number (erased (placed_leaf w)) = (refl, valued) in
    (w, spells, word_lexed text words at len Number w.text lexed here refl)

-- a sign is a word
sign_here : (kind : TokenKind) (b : ℕ) (after : List ℕ) → IsSign kind b → IsWordAt kind 1 (b ∷ after)
sign_here kind b after (no_number, spells, follows) = record { nonempty = omega arith; in_range = omega arith; is_part = (spells, follows after); valued = λ number. absurd (no_number number) }

pub sign_lexed : (text : List ℕ) (words : List PlacedWord) (at : ℕ) (kind : TokenKind) (sign : ℕ) → LexedTo text words at → at < length text → get_or text at 0 ≡ sign → IsSign kind sign → ReadsSign text words (at + 1) kind
sign_lexed text words at kind sign lexed within is of_kind =
    let here : IsWordAt kind 1 (drop at text) = rw (drop-cons text at 0 within) (sign_here kind (get_or text at 0) (drop (suc at) text) (subst (IsSign kind) (sym is) of_kind)) in
    (_, refl, word_lexed text words at 1 kind (take 1 (drop at text)) lexed here refl)
