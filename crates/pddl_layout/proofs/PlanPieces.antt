-- The canonical text of a plan reads back as the plan.
use Rattle.std.proofs.Common.{◌≡◌, ℕ, ◌≤◌, true, List, [], ◌∷◌, ◌++◌, length, map, refl, sym, ap, subst, ◌∙◌, arith, append_assoc}
use Rattle.std.specs.Prelude.{nat_lt, codes, Some, IsSome}
use Rattle.std.specs.List.{AllPass, flat_map, list_all}
use Rattle.std.specs.Char.{is_ascii_whitespace, is_ascii_alphabetic}
use Rattle.std.proofs.lemmas.List.Elements.{All-nil, All-cons}
use Rattle.std.proofs.lemmas.Grind.{flat_map-append}
use Rattle.std.proofs.lemmas.Bool.Decides.{nat_tests}
use Rattle.std.proofs.lemmas.Bool.{and_from, leb-true}
use Rattle.pddl_token.specs.declared.token.TokenKind.TheVariants.{Close, Name, Number, Colon}
use Rattle.pddl_token.specs.Bytes.{is_word_byte}
use Rattle.pddl_token.specs.Words.{IsName}
use Rattle.pddl_token.specs.Number.{largest, value_of}
use Rattle.pddl_token.specs.NumberText.{number_text}
use Rattle.pddl_token.specs.Spelling.{Word}
use Rattle.pddl_token.specs.Trees.{Tree, leaf, node, Trees, no_trees, tree, list_of, erased}
use Rattle.pddl_text.specs.Pieces.{Piece, token, blanks, piece_text, pieces_text, tokens_of, AreWritten, tree_words, trees_words, AreWritable, AreWithin, tree_pieces, first_pieces, later_pieces}
use Rattle.pddl_text.specs.Texts.{HasItems, ReadsAs}
use Rattle.pddl_text.proofs.Written.{written_append, tokens_append, tree_written, tree_tokens}
use Rattle.pddl_text.proofs.Listed.{reads_back}
use Rattle.pddl_token.proofs.NumberTexts.{reads_as_it}
use Rattle.pddl_token.proofs.Tests.{both_true}
use Rattle.pddl_token.proofs.Values.{value_in_range}
use Rattle.pddl_plan.specs.Building.{is_moment}
use Rattle.pddl_token.specs.Names.{is_first_byte, is_later_byte, is_name}
use Rattle.pddl_plan.specs.Plans.{StepValue, TimedValue, PlanValue, plain, timed, is_step, is_timed, is_plan, IsStep, AreTimed, AreSteps}
use Rattle.pddl_step_reader.specs.PlanTexts.{SpellsPlan}
use Rattle.pddl_token.specs.TreeWords.{SpellsName, SpellsNumber, Each}
use Rattle.pddl_token.proofs.FoldedNames.{name_folded}
use Rattle.pddl_plan_reader.proofs.PlanTextLaws.{one_plan}
use Rattle.pddl_items.proofs.Readers.{each_good}
use Rattle.pddl_layout.specs.PlanLayout.{spaced, plain_line, timed_line, plan_text}

-- ---- names

first_letter : (b : ℕ) → is_first_byte b ≡ true → is_ascii_alphabetic b ≡ true
first_letter b e = grind (arith, nat_tests, e)

later_word_byte : (b : ℕ) → is_later_byte b ≡ true → is_word_byte b ≡ true
later_word_byte b e = grind (arith, nat_tests, e)

all_word_bytes : (bytes : List ℕ) → list_all is_later_byte bytes ≡ true → AllPass is_word_byte bytes
all_word_bytes [] e = All-nil (λ x. is_word_byte x ≡ true)
all_word_bytes (b ∷ bytes) e =
    let parts = both_true (is_later_byte b) (list_all is_later_byte bytes) e in
    All-cons (λ x. is_word_byte x ≡ true) b bytes (later_word_byte b parts.0) (all_word_bytes bytes parts.1)

name_spelled : (name : List ℕ) → is_name name ≡ true → IsName name
name_spelled [] e = absurd (cc (e))
name_spelled (b ∷ bytes) e = let parts = both_true (is_first_byte b) (list_all is_later_byte bytes) e in (first_letter b parts.0, all_word_bytes bytes parts.1)

-- ---- the trees of a plan

abbrev name_word : List ℕ → Word
name_word name = record { kind = Name; text = name }

abbrev names_trees : List (List ℕ) → Trees
names_trees [] = no_trees
names_trees (name ∷ names) = tree (leaf (name_word name)) (names_trees names)

abbrev step_tree : StepValue → Tree
step_tree step = node (names_trees (step.action ∷ step.objects))

abbrev number_word : ℕ → Word
number_word n = record { kind = Number; text = number_text n }

abbrev colon_word : Word
colon_word = record { kind = Colon; text = codes ":" }

abbrev plain_trees : List StepValue → Trees
plain_trees [] = no_trees
plain_trees (step ∷ steps) = tree (step_tree step) (plain_trees steps)

abbrev timed_trees : List TimedValue → Trees
timed_trees [] = no_trees
timed_trees (s ∷ steps) = tree (leaf (number_word s.moment)) (tree (leaf colon_word) (tree (step_tree s.step) (timed_trees steps)))

abbrev plan_trees : PlanValue → Trees
plan_trees (plain steps) = plain_trees steps
plan_trees (timed steps) = timed_trees steps

-- ---- they spell the plan

names_named : (names : List (List ℕ)) → list_all is_name names ≡ true → Each SpellsName names (list_of (names_trees names))
names_named [] e = tt
names_named (name ∷ names) e = let parts = both_true (is_name name) (list_all is_name names) e in ((parts.0, (refl, name_folded name parts.0)), names_named names parts.1)

step_is : (step : StepValue) → is_step step ≡ true → IsStep step (step_tree step)
step_is step e = names_named (step.action ∷ step.objects) e

plain_are : (steps : List StepValue) → list_all is_step steps ≡ true → Each IsStep steps (list_of (plain_trees steps))
plain_are [] e = tt
plain_are (step ∷ steps) e = let parts = both_true (is_step step) (list_all is_step steps) e in (step_is step parts.0, plain_are steps parts.1)

timed_are : (steps : List TimedValue) → list_all is_timed steps ≡ true → AreTimed steps (list_of (timed_trees steps))
timed_are [] e = tt
timed_are (s ∷ steps) e =
    let parts = both_true (is_timed s) (list_all is_timed steps) e in
    let here = both_true (is_moment s.moment) (is_step s.step) parts.0 in
    (((refl, (reads_as_it s.moment (leb-true s.moment largest here.0)).1), refl, step_is s.step here.1), timed_are steps parts.1)

plan_are : (plan : PlanValue) → is_plan plan ≡ true → AreSteps plan (list_of (plan_trees plan))
plan_are (plain steps) e = plain_are steps e
plan_are (timed steps) e = let parts = both_true (nat_lt 0 (length steps)) (list_all is_timed steps) e in (grind (arith, nat_tests, parts.0), timed_are steps parts.1)

-- ---- they can be written

names_writable : (names : List (List ℕ)) → list_all is_name names ≡ true → AreWritable (names_trees names)
names_writable [] e = tt
names_writable (name ∷ names) e =
    let parts = both_true (is_name name) (list_all is_name names) e in
    (((name_spelled name parts.0, λ bad. absurd (cc (bad))), λ bad. absurd (cc (bad)), λ bad. absurd (cc (bad))), names_writable names parts.1)

number_valued : (n : ℕ) → value_of (number_text n) ≡ Some n → IsSome (value_of (number_text n))
number_valued n e = subst (λ o. IsSome o) (sym e) refl

plain_writable : (steps : List StepValue) → list_all is_step steps ≡ true → AreWritable (plain_trees steps)
plain_writable [] e = tt
plain_writable (step ∷ steps) e = let parts = both_true (is_step step) (list_all is_step steps) e in (names_writable (step.action ∷ step.objects) parts.0, plain_writable steps parts.1)

timed_writable : (steps : List TimedValue) → list_all is_timed steps ≡ true → AreWritable (timed_trees steps)
timed_writable [] e = tt
timed_writable (s ∷ steps) e =
    let parts = both_true (is_timed s) (list_all is_timed steps) e in
    let here = both_true (is_moment s.moment) (is_step s.step) parts.0 in
    let number = reads_as_it s.moment (leb-true s.moment largest here.0) in
    (((number.0, λ is. number_valued s.moment number.1), λ bad. absurd (cc (bad)), λ bad. absurd (cc (bad))), (((refl, λ bad. absurd (cc (bad))), λ bad. absurd (cc (bad)), λ bad. absurd (cc (bad))), (names_writable (s.step.action ∷ s.step.objects) here.1, timed_writable steps parts.1)))

plan_writable : (plan : PlanValue) → is_plan plan ≡ true → AreWritable (plan_trees plan)
plan_writable (plain steps) e = plain_writable steps e
plan_writable (timed steps) e = let parts = both_true (nat_lt 0 (length steps)) (list_all is_timed steps) e in timed_writable steps parts.1

-- ---- no list stands deep

names_within : (levels : ℕ) (names : List (List ℕ)) → AreWithin levels (names_trees names)
names_within levels [] = tt
names_within levels (name ∷ names) = (tt, names_within levels names)

plain_within : (steps : List StepValue) → AreWithin 128 (plain_trees steps)
plain_within [] = tt
plain_within (step ∷ steps) = (names_within 127 (step.action ∷ step.objects), plain_within steps)

timed_within : (steps : List TimedValue) → AreWithin 128 (timed_trees steps)
timed_within [] = tt
timed_within (s ∷ steps) = (tt, (tt, (names_within 127 (s.step.action ∷ s.step.objects), timed_within steps)))

plan_within : (plan : PlanValue) → AreWithin 128 (plan_trees plan)
plan_within (plain steps) = plain_within steps
plan_within (timed steps) = timed_within steps

-- ---- the pieces of a plan's text

abbrev plain_pieces : List StepValue → List Piece
plain_pieces [] = []
plain_pieces (step ∷ steps) = tree_pieces (step_tree step) ++ (blanks (10 ∷ []) ∷ plain_pieces steps)

abbrev timed_pieces : List TimedValue → List Piece
timed_pieces [] = []
timed_pieces (s ∷ steps) = token (number_word s.moment) ∷ (token colon_word ∷ (blanks (32 ∷ []) ∷ (tree_pieces (step_tree s.step) ++ (blanks (10 ∷ []) ∷ timed_pieces steps))))

abbrev plan_pieces : PlanValue → List Piece
plan_pieces (plain steps) = plain_pieces steps
plan_pieces (timed steps) = timed_pieces steps

later_text : (names : List (List ℕ)) → pieces_text (later_pieces (names_trees names)) ≡ spaced names
later_text [] = refl
later_text (name ∷ names) = ap (λ (t : List ℕ). 32 ∷ (name ++ t)) (later_text names)

regroup : (action objects rest : List ℕ) → ((action ++ objects) ++ 41 ∷ []) ++ (10 ∷ rest) ≡ (action ++ (objects ++ 41 ∷ 10 ∷ [])) ++ rest
regroup action objects rest = simp append_assoc

line_text : (step : StepValue) (pieces : List Piece) → pieces_text (tree_pieces (step_tree step) ++ (blanks (10 ∷ []) ∷ pieces)) ≡ plain_line step ++ pieces_text pieces
line_text step pieces =
    let inner : List Piece = first_pieces (names_trees (step.action ∷ step.objects)) in
    let back : List Piece = blanks (10 ∷ []) ∷ pieces in
    let names : pieces_text inner ≡ step.action ++ spaced step.objects = ap (λ (t : List ℕ). step.action ++ t) (later_text step.objects) in
    ap (λ (t : List ℕ). 40 ∷ t)
    (flat_map-append piece_text (inner ++ token (record { kind = Close; text = codes ")" }) ∷ []) back
    ∙ ap (λ (t : List ℕ). t ++ (10 ∷ pieces_text pieces)) (flat_map-append piece_text inner (token (record { kind = Close; text = codes ")" }) ∷ []) ∙ ap (λ (t : List ℕ). t ++ 41 ∷ []) names)
    ∙ regroup step.action (spaced step.objects) (pieces_text pieces))

plain_text_is : (steps : List StepValue) → pieces_text (plain_pieces steps) ≡ flat_map plain_line steps
plain_text_is [] = refl
plain_text_is (step ∷ steps) = line_text step (plain_pieces steps) ∙ ap (λ (t : List ℕ). plain_line step ++ t) (plain_text_is steps)

timed_text_is : (steps : List TimedValue) → pieces_text (timed_pieces steps) ≡ flat_map timed_line steps
timed_text_is [] = refl
timed_text_is (s ∷ steps) =
    ap (λ (t : List ℕ). number_text s.moment ++ (58 ∷ 32 ∷ t)) (line_text s.step (timed_pieces steps) ∙ ap (λ (t : List ℕ). plain_line s.step ++ t) (timed_text_is steps))
    ∙ sym (append_assoc (number_text s.moment) (58 ∷ 32 ∷ plain_line s.step) (flat_map timed_line steps))

plan_text_is : (plan : PlanValue) → pieces_text (plan_pieces plan) ≡ plan_text plan
plan_text_is (plain steps) = plain_text_is steps
plan_text_is (timed steps) = timed_text_is steps

blank : (b : ℕ) → is_ascii_whitespace b ≡ true → AllPass is_ascii_whitespace (b ∷ [])
blank b e = All-cons (λ x. is_ascii_whitespace x ≡ true) b [] e (All-nil (λ x. is_ascii_whitespace x ≡ true))

plain_written : (steps : List StepValue) → list_all is_step steps ≡ true → AreWritten (plain_pieces steps) []
plain_written [] e = tt
plain_written (step ∷ steps) e =
    let parts = both_true (is_step step) (list_all is_step steps) e in
    written_append (tree_pieces (step_tree step)) (blanks (10 ∷ []) ∷ plain_pieces steps) [] (tree_written (step_tree step) _ (names_writable (step.action ∷ step.objects) parts.0) refl) (blank 10 refl, plain_written steps parts.1)

timed_written : (steps : List TimedValue) → list_all is_timed steps ≡ true → AreWritten (timed_pieces steps) []
timed_written [] e = tt
timed_written (s ∷ steps) e =
    let parts = both_true (is_timed s) (list_all is_timed steps) e in
    let here = both_true (is_moment s.moment) (is_step s.step) parts.0 in
    let number = reads_as_it s.moment (leb-true s.moment largest here.0) in (
      (number.0, λ is. number_valued s.moment number.1),
      refl,
      (
        (refl, λ bad. absurd (cc (bad))),
        refl,
        (
          blank 32 refl,
          written_append (tree_pieces (step_tree s.step)) (blanks (10 ∷ []) ∷ timed_pieces steps) [] (tree_written (step_tree s.step) _ (names_writable (s.step.action ∷ s.step.objects) here.1) refl) (blank 10 refl, timed_written steps parts.1),
        ),
      ),
    )

plan_written : (plan : PlanValue) → is_plan plan ≡ true → AreWritten (plan_pieces plan) []
plan_written (plain steps) e = plain_written steps e
plan_written (timed steps) e = let parts = both_true (nat_lt 0 (length steps)) (list_all is_timed steps) e in timed_written steps parts.1

line_tokens : (step : StepValue) (pieces : List Piece) (words : List Word) → tokens_of pieces ≡ words → tokens_of (tree_pieces (step_tree step) ++ (blanks (10 ∷ []) ∷ pieces)) ≡ tree_words (step_tree step) ++ words
line_tokens step pieces words e =
    tokens_append (tree_pieces (step_tree step)) (blanks (10 ∷ []) ∷ pieces) ∙ ap (λ (ws : List Word). ws ++ tokens_of pieces) (tree_tokens (step_tree step)) ∙ ap (λ (ws : List Word). tree_words (step_tree step) ++ ws) e

plain_tokens : (steps : List StepValue) → tokens_of (plain_pieces steps) ≡ trees_words (plain_trees steps)
plain_tokens [] = refl
plain_tokens (step ∷ steps) = line_tokens step (plain_pieces steps) (trees_words (plain_trees steps)) (plain_tokens steps)

timed_tokens : (steps : List TimedValue) → tokens_of (timed_pieces steps) ≡ trees_words (timed_trees steps)
timed_tokens [] = refl
timed_tokens (s ∷ steps) = ap (λ (ws : List Word). number_word s.moment ∷ (colon_word ∷ ws)) (line_tokens s.step (timed_pieces steps) (trees_words (timed_trees steps)) (timed_tokens steps))

plan_tokens : (plan : PlanValue) → tokens_of (plan_pieces plan) ≡ trees_words (plan_trees plan)
plan_tokens (plain steps) = plain_tokens steps
plan_tokens (timed steps) = timed_tokens steps

-- ---- the laws

pub plan_reads_back : (plan : PlanValue) → is_plan plan ≡ true → length (plan_text plan) ≤ 16777216 → SpellsPlan plan (plan_text plan)
plan_reads_back plan good short =
    let text_is = plan_text_is plan in
    let reads : ReadsAs (pieces_text (plan_pieces plan)) (list_of (plan_trees plan)) =
    reads_back (plan_pieces plan) (plan_trees plan) (plan_written plan good) (plan_tokens plan) (plan_writable plan good) (plan_within plan) (omega (arith, short, ap (λ (t : List ℕ). length t) text_is)) in
    record {
      items = reads.items;
      has = subst (λ t. HasItems t reads.items) text_is reads.has;
      steps = subst (AreSteps plan) (sym reads.trees_are) (plan_are plan good);
    }

-- a plan that a text spells is one of the values
step_is_good : (step : StepValue) (t : Tree) → IsStep step t → is_step step ≡ true
step_is_good step (leaf w) bad = absurd bad
step_is_good step (node ts) is = each_good is_name SpellsName (λ name t spelled. spelled.0) (step.action ∷ step.objects) (list_of ts) is

moment_is_good : (m : ℕ) (t : Tree) → SpellsNumber m t → is_moment m ≡ true
moment_is_good m (leaf w) (is, value) = value_in_range w.text m value
moment_is_good m (node ts) bad = absurd bad

timed_are_good : (steps : List TimedValue) (ts : List Tree) → AreTimed steps ts → list_all is_timed steps ≡ true
timed_are_good [] ts are = refl
timed_are_good (s ∷ steps) (number ∷ colon ∷ t ∷ ts) (first, rest) =
    and_from (is_timed s) (list_all is_timed steps) (and_from (is_moment s.moment) (is_step s.step) (moment_is_good s.moment number first.0) (step_is_good s.step t first.2)) (timed_are_good steps ts rest)
timed_are_good (s ∷ steps) [] bad = absurd bad
timed_are_good (s ∷ steps) (number ∷ []) bad = absurd bad
timed_are_good (s ∷ steps) (number ∷ colon ∷ []) bad = absurd bad

spelled_is_good : (plan : PlanValue) (ts : List Tree) → AreSteps plan ts → is_plan plan ≡ true
spelled_is_good (plain steps) ts are = each_good is_step IsStep step_is_good steps ts are
spelled_is_good (timed steps) ts are = and_from (nat_lt 0 (length steps)) (list_all is_timed steps) (grind (arith, nat_tests, are.0)) (timed_are_good steps ts are.1)

pub one_canonical_plan : (plan other : PlanValue) (text more : List ℕ) → SpellsPlan plan text → SpellsPlan other more → length (plan_text plan) ≤ 16777216 → length (plan_text other) ≤ 16777216
    → plan_text plan ≡ plan_text other → plan ≡ other
one_canonical_plan plan other text more p q short brief same =
    one_plan (plan_text other) plan other
    (subst (SpellsPlan plan) same (plan_reads_back plan (spelled_is_good plan (map erased p.items) p.steps) short))
    (plan_reads_back other (spelled_is_good other (map erased q.items) q.steps) brief)
