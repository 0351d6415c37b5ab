-- Items of `:init` that are read from the text.
use Rattle.std.proofs.Common.{◌≡◌, ◌≢◌, ℕ, suc, List, [], ◌∷◌, ◌++◌, map, refl, sym, ap, subst, ◌∙◌, codes, inl, inr}
use Rattle.std.specs.Prelude.{Some, option_and_then}
use Rattle.std.proofs.lemmas.List.{append_assoc, append-nil}
use Rattle.pddl_token.specs.declared.token.TokenKind.{TokenKind}
use Rattle.pddl_token.specs.declared.token.TokenKind.TheVariants.{Open, Close, Name, Number, Equal}
use Rattle.pddl_token.specs.Spelling.{PlacedWord}
use Rattle.pddl_token.specs.Trees.{Tree, node, Placed, placed_leaf, placed_node, placed_of, erased}
use Rattle.pddl_token.specs.TreeWords.{list, SpellsName, SpellsNumber, Each}
use Rattle.pddl_scan.specs.Scanning.{LexedTo}
use Rattle.pddl_items.proofs.Readers.{name_reads}
use Rattle.pddl_items.proofs.TreeLists.{all_erased_list}
use Rattle.pddl_text.specs.Lists.{span_over, AreItems, none, plain, nested}
use Rattle.pddl_text.specs.Inner.NextWords.{ReadsName}
use Rattle.pddl_text.proofs.Nests.{items_append}
use Rattle.pddl_formula.specs.Reserved.{predicate_of}
use Rattle.pddl_formula.specs.Terms.{IsPredicate}
use Rattle.pddl_formula_reader.proofs.TermLaws.{predicate_reads}
use Rattle.pddl_problem.specs.Inits.{GroundValue, fails, value, IsFact, IsGroundFunction, IsInit}
use Rattle.pddl_problem_reader.specs.Inner.InitTexts.{AreNames, ReadsNames, ReadsObjects, ReadsTree}

-- a word of one kind is of no other
pub not_kind : (w : PlacedWord) (kind other : TokenKind) → w.kind ≡ kind → kind ≢ other → w.kind ≢ other
not_kind w kind other is differ e = differ (sym is ∙ e)

-- ---- names

-- a word that spells a name is an item by itself
name_item : (levels : ℕ) (w : PlacedWord) (name : List ℕ) (more : List PlacedWord) (items : List Placed) → SpellsName name (erased (placed_leaf w)) → AreItems levels more items
    → AreItems levels (w ∷ more) (placed_leaf w ∷ items)
name_item levels w name more items spells form =
    plain w (not_kind w Name Open spells.1.0 (λ e. absurd (cc (e)))) (not_kind w Name Close spells.1.0 (λ e. absurd (cc (e)))) form

-- and so are several
pub names_form : (levels : ℕ) (names : List (List ℕ)) (words : List PlacedWord) → AreNames names words → AreItems levels words (map placed_leaf words)
names_form levels [] [] are = none
names_form levels [] (w ∷ words) are = absurd are
names_form levels (name ∷ names) [] are = absurd are
names_form levels (name ∷ names) (w ∷ words) are = name_item levels w name words (map placed_leaf words) are.0 (names_form levels names words are.1)

names_more : (names : List (List ℕ)) (words : List PlacedWord) (name : List ℕ) (w : PlacedWord) → AreNames names words → SpellsName name (erased (placed_leaf w)) → AreNames (names ++ name ∷ []) (words ++ w ∷ [])
names_more [] [] name w are spells = (spells, tt)
names_more [] (v ∷ words) name w are spells = absurd are
names_more (n ∷ names) [] name w are spells = absurd are
names_more (n ∷ names) (v ∷ words) name w are spells = (are.0, names_more names words name w are.1 spells)

-- no name yet
pub no_names : (text : List ℕ) (words : List PlacedWord) (at : ℕ) → LexedTo text words at → ReadsNames text words at []
no_names text words at lexed = record { more = []; are = tt; lexed = rw (append-nil words) lexed }

-- one more
pub one_name : (text : List ℕ) (words : List PlacedWord) (at to : ℕ) (names : List (List ℕ)) (name : List ℕ) (read : ReadsNames text words at names) → ReadsName text (words ++ read.more) to name
    → ReadsNames text words to (names ++ name ∷ [])
one_name text words at to names name read (w, spells, lexed) =
    record { more = read.more ++ w ∷ []; are = names_more names read.more name w read.are spells; lexed = rw (← append_assoc words read.more (w ∷ [])) lexed }

-- ---- lists

-- a list is an item
list_item : (Holds : Tree → Type 0) (text : List ℕ) (words : List PlacedWord) (levels at : ℕ) (opening closing : PlacedWord) (more : List PlacedWord) (items : List Placed)
    → opening.kind ≡ Open → closing.kind ≡ Close → AreItems levels more items → Holds (list (map erased items)) → LexedTo text (words ++ opening ∷ (more ++ closing ∷ [])) at
    → ReadsTree Holds text words (suc levels) at
list_item Holds text words levels at opening closing more items is_open is_close form holds lexed = record {
  more = opening ∷ (more ++ closing ∷ []);
  item = placed_node (span_over opening closing) (placed_of items);
  lexed = lexed;
  form = nested opening closing more [] items [] is_open is_close form none refl refl;
  holds = subst (λ ts. Holds (node ts)) (sym (all_erased_list items)) holds;
}

-- the words of a list, behind others
regroup : (words more : List PlacedWord) (opening head closing : PlacedWord) → (((words ++ opening ∷ []) ++ head ∷ []) ++ more) ++ closing ∷ [] ≡ words ++ opening ∷ ((head ∷ more) ++ closing ∷ [])
regroup words more opening head closing =
    append_assoc ((words ++ opening ∷ []) ++ head ∷ []) more (closing ∷ []) ∙ append_assoc (words ++ opening ∷ []) (head ∷ []) (more ++ closing ∷ []) ∙ append_assoc words (opening ∷ []) (head ∷ (more ++ closing ∷ []))

-- a list of a name and of others
call_item : (Holds : Tree → Type 0) (text : List ℕ) (words : List PlacedWord) (levels at : ℕ) (opening head : PlacedWord) (name : List ℕ) (names : List (List ℕ))
    → opening.kind ≡ Open → SpellsName name (erased (placed_leaf head)) → (read : ReadsObjects text ((words ++ opening ∷ []) ++ head ∷ []) at names)
    → ((ts : List Tree) → Each SpellsName names ts → Holds (list (erased (placed_leaf head) ∷ ts))) → ReadsTree Holds text words (suc levels) at
call_item Holds text words levels at opening head name names is_open spells read says =
    list_item Holds text words levels at opening read.closing (head ∷ read.more) (placed_leaf head ∷ map placed_leaf read.more) is_open read.is_close
    (name_item levels head name read.more (map placed_leaf read.more) spells (names_form levels names read.more read.are)) (says (map erased (map placed_leaf read.more)) read.are)
    (subst (λ ws. LexedTo text ws at) (regroup words read.more opening head read.closing) read.lexed)

-- ---- facts and functions

-- a predicate's name
predicate_spelled : (name p : List ℕ) (t : Tree) → SpellsName name t → predicate_of name ≡ Some p → IsPredicate p t
predicate_spelled name p t spells is = predicate_reads.sound t p (ap (λ o. option_and_then predicate_of o) (name_reads.complete t name spells) ∙ is)

-- a fact in parentheses
pub fact_item : (Holds : Tree → Type 0) (text : List ℕ) (words : List PlacedWord) (levels at : ℕ) (opening head : PlacedWord) (name : List ℕ) (f : GroundValue)
    → opening.kind ≡ Open → SpellsName name (erased (placed_leaf head)) → predicate_of name ≡ Some f.name → ReadsObjects text ((words ++ opening ∷ []) ++ head ∷ []) at f.objects
    → ((t : Tree) → IsFact f t → Holds t) → ReadsTree Holds text words (suc levels) at
fact_item Holds text words levels at opening head name f is_open spells is read holds =
    call_item Holds text words levels at opening head name f.objects is_open spells read
    (λ ts each. holds (list (erased (placed_leaf head) ∷ ts)) (erased (placed_leaf head), ts, refl, predicate_spelled name f.name (erased (placed_leaf head)) spells is, each))

-- a function in parentheses
pub call_read : (text : List ℕ) (words : List PlacedWord) (levels at : ℕ) (opening head : PlacedWord) (f : GroundValue)
    → opening.kind ≡ Open → SpellsName f.name (erased (placed_leaf head)) → ReadsObjects text ((words ++ opening ∷ []) ++ head ∷ []) at f.objects
    → ReadsTree (IsGroundFunction f) text words (suc levels) at
call_read text words levels at opening head f is_open spells read =
    call_item (IsGroundFunction f) text words levels at opening head f.name f.objects is_open spells read (λ ts each. inr (erased (placed_leaf head), ts, refl, spells, each))

-- a bare one
pub bare_read : (text : List ℕ) (words : List PlacedWord) (levels at : ℕ) (f : GroundValue) → f.objects ≡ [] → ReadsName text words at f.name → ReadsTree (IsGroundFunction f) text words levels at
bare_read text words levels at f bare (w, spells, lexed) =
    record { more = w ∷ []; item = placed_leaf w; lexed = lexed; form = name_item levels w f.name [] [] spells none; holds = inl (bare, spells) }

-- ---- items of `:init`

-- a fact that does not hold
pub failing_read : (text : List ℕ) (words : List PlacedWord) (to at : ℕ) (opening head closing : PlacedWord) (f : GroundValue) → opening.kind ≡ Open → SpellsName (codes "not") (erased (placed_leaf head)) → closing.kind ≡ Close
    → (read : ReadsTree (IsFact f) text ((words ++ opening ∷ []) ++ head ∷ []) 125 to) → LexedTo text ((((words ++ opening ∷ []) ++ head ∷ []) ++ read.more) ++ closing ∷ []) at
    → ReadsTree (IsInit (fails f)) text words 126 at
failing_read text words to at opening head closing f is_open spells is_close read lexed =
    list_item (IsInit (fails f)) text words 125 at opening closing (head ∷ read.more) (placed_leaf head ∷ read.item ∷ []) is_open is_close
    (name_item 125 head (codes "not") read.more (read.item ∷ []) spells read.form) (erased (placed_leaf head), erased read.item, refl, spells.1, read.holds)
    (subst (λ ws. LexedTo text ws at) (regroup words read.more opening head closing) lexed)

-- a function's value
pub value_read : (text : List ℕ) (words : List PlacedWord) (to at : ℕ) (opening sign number closing : PlacedWord) (f : GroundValue) (n : ℕ) → opening.kind ≡ Open → sign.kind ≡ Equal → closing.kind ≡ Close
    → SpellsNumber n (erased (placed_leaf number)) → (read : ReadsTree (IsGroundFunction f) text ((words ++ opening ∷ []) ++ sign ∷ []) 125 to)
    → LexedTo text (((((words ++ opening ∷ []) ++ sign ∷ []) ++ read.more) ++ number ∷ []) ++ closing ∷ []) at → ReadsTree (IsInit (value f n)) text words 126 at
value_read text words to at opening sign number closing f n is_open is_sign is_close spells read lexed =
    let inner = items_append read.form (number ∷ []) (placed_leaf number ∷ [])
    (plain number (not_kind number Number Open spells.0 (λ e. absurd (cc (e)))) (not_kind number Number Close spells.0 (λ e. absurd (cc (e)))) none) in
    list_item (IsInit (value f n)) text words 125 at opening closing (sign ∷ (read.more ++ number ∷ [])) (placed_leaf sign ∷ read.item ∷ placed_leaf number ∷ []) is_open is_close
    (plain sign (not_kind sign Equal Open is_sign (λ e. absurd (cc (e)))) (not_kind sign Equal Close is_sign (λ e. absurd (cc (e)))) inner)
    (erased (placed_leaf sign), erased read.item, erased (placed_leaf number), refl, is_sign, read.holds, spells)
    (subst (λ ws. LexedTo text ws at)
    (ap (λ ws. ws ++ closing ∷ []) (append_assoc ((words ++ opening ∷ []) ++ sign ∷ []) read.more (number ∷ [])) ∙ regroup words (read.more ++ number ∷ []) opening sign closing) lexed)
