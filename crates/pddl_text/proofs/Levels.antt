-- Trees are as deep as the items of their text.
use Rattle.std.proofs.Common.{◌≡◌, ℕ, suc, List, [], ◌∷◌, ◌++◌, map, refl, sym, ap, ◌∙◌}
use Rattle.std.specs.Prelude.{◌≢◌}
use Rattle.std.proofs.lemmas.List.{append_assoc, map-append}
use Rattle.pddl_token.specs.declared.token.TokenKind.TheVariants.{Open, Close}
use Rattle.pddl_token.specs.Spelling.{Word, PlacedWord, words_from}
use Rattle.pddl_token.specs.Trees.{leaf, node, Trees, no_trees, tree, Placed, unplaced}
use Rattle.pddl_text.specs.Lists.{AreItems, none, plain, nested}
use Rattle.pddl_text.specs.Pieces.{Piece, tokens_of, pieces_text, AreWritten, opening_word, closing_word, trees_words, AreWritable, AreWithin}
use Rattle.pddl_text.specs.Texts.{HasItems}
use Rattle.pddl_scan.proofs.Lexed.{one_spelling}
use Rattle.pddl_text.proofs.Written.{parts_of, unplaced_words, written_spells}

-- the words form items in which the trees stand at the front; behind their words the closing and what follows it are the rest
record GoesOn (levels : ℕ) (ts : Trees) (last : Word) (behind rest : List Word) : Type 0 where
  within : AreWithin levels ts
  words : List PlacedWord
  items : List Placed
  form : AreItems levels words items
  words_are : map unplaced words ++ last ∷ behind ≡ rest

-- no items begin with a closing
closes : (levels : ℕ) (words : List PlacedWord) (items : List Placed) (last w : Word) (behind rest : List Word) → AreItems levels words items → w.kind ≡ Close
    → map unplaced words ++ last ∷ behind ≡ w ∷ rest → (words ≡ []) × (behind ≡ rest)
closes levels words items last w behind rest none is_close e = (refl, cc e)
closes levels words items last w behind rest (plain v no_open no_close after) is_close e =
    let head : unplaced v ≡ w = cc e in
    absurd (no_close (ap (λ (x : Word). x.kind) head ∙ is_close))
closes levels words items last w behind rest (nested opening closing inner after children others is_open closed in_inner in_after words_are items_are) is_close e =
    let head : unplaced opening ≡ w = cc (ap (λ (t : List PlacedWord). map unplaced t ++ last ∷ behind) (sym words_are) ∙ e) in
    absurd (cc (sym is_open ∙ (ap (λ (x : Word). x.kind) head ∙ is_close)))

-- the words of these trees come at the front of any items whose words begin with them
abbrev Leads : Trees → Type 0
Leads ts = (levels : ℕ) (words : List PlacedWord) (items : List Placed) (last : Word) (behind rest : List Word) → last.kind ≡ Close → AreItems levels words items
    → map unplaced words ++ last ∷ behind ≡ trees_words ts ++ rest → GoesOn levels ts last behind rest

past_leaf : (w : Word) (ts : Trees) → (w.kind ≢ Open) × (w.kind ≢ Close) → Leads ts → (levels : ℕ) (words : List PlacedWord) (items : List Placed) (last : Word) (behind rest : List Word) → last.kind ≡ Close → AreItems levels words items
    → map unplaced words ++ last ∷ behind ≡ w ∷ (trees_words ts ++ rest) → GoesOn levels (tree (leaf w) ts) last behind rest
past_leaf w ts word leads levels words items last behind rest is_close none e =
    let head : last ≡ w = cc e in
    absurd (word.1 (ap (λ (x : Word). x.kind) (sym head) ∙ is_close))
past_leaf w ts word leads levels words items last behind rest is_close (plain {words = more} {items = others} v no_open no_close after) e =
    let tail : map unplaced more ++ last ∷ behind ≡ trees_words ts ++ rest = cc e in
    let on = leads levels more others last behind rest is_close after tail in
    record { within = (tt, on.within); words = on.words; items = on.items; form = on.form; words_are = on.words_are }
past_leaf w ts word leads levels words items last behind rest is_close (nested opening closing inner after children others is_open closed in_inner in_after words_are items_are) e =
    let head : unplaced opening ≡ w = cc (ap (λ (t : List PlacedWord). map unplaced t ++ last ∷ behind) (sym words_are) ∙ e) in
    absurd (word.0 (ap (λ (x : Word). x.kind) (sym head) ∙ is_open))

past_node : (us ts : Trees) → Leads us → Leads ts → (levels : ℕ) (words : List PlacedWord) (items : List Placed) (last : Word) (behind rest : List Word) → last.kind ≡ Close → AreItems levels words items
    → map unplaced words ++ last ∷ behind ≡ opening_word ∷ (trees_words us ++ closing_word ∷ (trees_words ts ++ rest)) → GoesOn levels (tree (node us) ts) last behind rest
past_node us ts inside leads levels words items last behind rest is_close none e =
    let head : last ≡ opening_word = cc e in
    absurd (cc (sym is_close ∙ ap (λ (x : Word). x.kind) head))
past_node us ts inside leads levels words items last behind rest is_close (plain v no_open no_close after) e =
    let head : unplaced v ≡ opening_word = cc e in
    absurd (no_open (ap (λ (x : Word). x.kind) head))
past_node us ts inside leads levels words items last behind rest is_close (nested {levels = below} opening closing inner after children others is_open closed in_inner in_after words_are items_are) e =
    let whole : map unplaced (opening ∷ (inner ++ closing ∷ after)) ++ last ∷ behind ≡ opening_word ∷ (trees_words us ++ closing_word ∷ (trees_words ts ++ rest)) = ap (λ (t : List PlacedWord). map unplaced t ++ last ∷ behind) (sym words_are) ∙ e in
    let tail : map unplaced (inner ++ closing ∷ after) ++ last ∷ behind ≡ trees_words us ++ closing_word ∷ (trees_words ts ++ rest) = cc whole in
    let split : map unplaced inner ++ unplaced closing ∷ (map unplaced after ++ last ∷ behind) ≡ trees_words us ++ closing_word ∷ (trees_words ts ++ rest) =
    sym (ap (λ (t : List Word). t ++ last ∷ behind) (map-append unplaced inner (closing ∷ after)) ∙ append_assoc (map unplaced inner) (unplaced closing ∷ map unplaced after) (last ∷ behind)) ∙ tail in
    let first = inside below inner children (unplaced closing) (map unplaced after ++ last ∷ behind) (closing_word ∷ (trees_words ts ++ rest)) closed in_inner split in
    let ended = closes below first.words first.items (unplaced closing) closing_word (map unplaced after ++ last ∷ behind) (trees_words ts ++ rest) first.form refl first.words_are in
    let on = leads (suc below) after others last behind rest is_close in_after ended.1 in
    record { within = (first.within, on.within); words = on.words; items = on.items; form = on.form; words_are = on.words_are }

node_words : (us ts : Trees) (rest : List Word) → (opening_word ∷ (trees_words us ++ closing_word ∷ []) ++ trees_words ts) ++ rest ≡ opening_word ∷ (trees_words us ++ closing_word ∷ (trees_words ts ++ rest))
node_words us ts rest = ap (λ (t : List Word). opening_word ∷ t) (ap (λ (t : List Word). t ++ rest) (append_assoc (trees_words us) (closing_word ∷ []) (trees_words ts)) ∙ append_assoc (trees_words us) (closing_word ∷ trees_words ts) rest)

leads_on : (ts : Trees) → AreWritable ts → Leads ts
leads_on no_trees good levels words items last behind rest is_close form e = record { within = tt; words = words; items = items; form = form; words_are = e }
leads_on (tree (leaf w) ts) good levels words items last behind rest is_close form e = past_leaf w ts (good.0.1, good.0.2) (leads_on ts good.1) levels words items last behind rest is_close form e
leads_on (tree (node us) ts) good levels words items last behind rest is_close form e =
    past_node us ts (leads_on us good.0) (leads_on ts good.1) levels words items last behind rest is_close form (e ∙ node_words us ts rest)

-- written pieces whose text has items are no deeper
pub levels_as_read : (pieces : List Piece) (trees : Trees) (items : List Placed) → AreWritten pieces [] → tokens_of pieces ≡ trees_words trees → AreWritable trees → HasItems (pieces_text pieces) items → AreWithin 128 trees
levels_as_read pieces trees items written tokens_are good has =
    let words_are : map unplaced has.words ≡ trees_words trees = ap (map unplaced) (one_spelling has.words (words_from 0 (parts_of pieces)) (pieces_text pieces) has.spells (written_spells pieces written)) ∙ unplaced_words pieces 0 ∙ tokens_are in
    (leads_on trees good 128 has.words items closing_word [] (closing_word ∷ []) refl has.form (ap (λ (t : List Word). t ++ closing_word ∷ []) words_are)).within
