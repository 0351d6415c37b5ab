-- Typed lists of names that are read from the text.
use Rattle.std.proofs.Common.{◌≡◌, ◌≢◌, ℕ, List, [], ◌∷◌, ◌++◌, map, refl, sym, ap, subst, ◌∙◌}
use Rattle.std.specs.Prelude.{option_map}
use Rattle.std.proofs.lemmas.List.{append_assoc, append-nil, map-append}
use Rattle.pddl_token.specs.declared.token.TokenKind.TheVariants.{Open, Close, Dash}
use Rattle.pddl_token.specs.Spelling.{PlacedWord}
use Rattle.pddl_token.specs.Trees.{Tree, Placed, placed_leaf, erased}
use Rattle.pddl_token.specs.TreeWords.{IsDash, SpellsName, Each}
use Rattle.pddl_scan.specs.Scanning.{LexedTo}
use Rattle.pddl_text.specs.Lists.{none, plain}
use Rattle.pddl_text.specs.Inner.NextWords.{ReadsSign}
use Rattle.pddl_text.proofs.Nests.{items_append}
use Rattle.pddl_formula.specs.TypedLists.{TypedValue, IsType, OfType, AreTypedNames, untyped, typed, object, of_type}
use Rattle.pddl_formula_reader.proofs.TypedListLaws.{names_complete}
use Rattle.pddl_file.specs.declared.keyword.SectionKeyword.TheVariants as keys
use Rattle.pddl_problem_reader.specs.ProblemTexts.{objects}
use Rattle.pddl_problem_reader.specs.Inner.OnePass.{ReadsPart}
use Rattle.pddl_problem_reader.specs.Inner.InitTexts.{ReadsNames, ReadsTree}
use Rattle.pddl_problem_reader.specs.Inner.ObjectTexts.{ReadsGroups}
use Rattle.pddl_problem_reader.proofs.InitTexts.{not_kind, names_form}

-- names of one type
each_of_type : (names : List (List ℕ)) (type : List (List ℕ)) (ts : List Tree) → Each SpellsName names ts → Each (OfType SpellsName type) (of_type names type) ts
each_of_type [] type [] each = tt
each_of_type [] type (t ∷ ts) each = absurd each
each_of_type (n ∷ names) type [] each = absurd each
each_of_type (n ∷ names) type (t ∷ ts) each = ((each.0, refl), each_of_type names type ts each.1)

-- a group, and a typed list behind it
typed_more : (names : List (List ℕ)) (type : List (List ℕ)) (gs : List Tree) (dash t : Tree) (xs : List TypedValue) (ts : List Tree) → names ≢ [] → Each SpellsName names gs → IsDash dash → IsType type t
    → AreTypedNames xs ts → AreTypedNames (of_type names type ++ xs) (gs ++ dash ∷ t ∷ ts)
typed_more [] type gs dash t xs ts some each is_dash is_type are = absurd (some refl)
typed_more (n ∷ names) type gs dash t xs ts some each is_dash is_type are =
    typed (of_type (n ∷ names) type) xs (gs ++ dash ∷ t ∷ []) ts refl (sym (append_assoc gs (dash ∷ t ∷ []) ts))
    (record { value = type; items = gs; dash = dash; type = t; trees_are = refl; some = λ e. absurd (cc (e)); each = each_of_type (n ∷ names) type gs each; is_dash = is_dash; is_type = is_type }) are

-- no group yet
pub no_groups : (text : List ℕ) (words : List PlacedWord) (at : ℕ) → LexedTo text words at → ReadsGroups text words at []
no_groups text words at lexed = record { more = []; items = []; lexed = rw (append-nil words) lexed; form = none; before = λ xs ts are. are }

-- the trees of groups, and of one more
trees_more : (items names : List Placed) (dash type : Placed) (ts : List Tree) → map erased (items ++ (names ++ dash ∷ type ∷ [])) ++ ts ≡ map erased items ++ (map erased names ++ erased dash ∷ erased type ∷ ts)
trees_more items names dash type ts =
    ap (λ us. us ++ ts) (map-append erased items (names ++ dash ∷ type ∷ []))
    ∙ (append_assoc (map erased items) (map erased (names ++ dash ∷ type ∷ [])) ts
    ∙ ap (λ us. map erased items ++ us) (ap (λ us. us ++ ts) (map-append erased names (dash ∷ type ∷ [])) ∙ append_assoc (map erased names) (erased dash ∷ erased type ∷ []) ts))

-- its words
words_more : (words more names type : List PlacedWord) (dash : PlacedWord) → (((words ++ more) ++ names) ++ dash ∷ []) ++ type ≡ words ++ (more ++ (names ++ dash ∷ type))
words_more words more names type dash =
    append_assoc ((words ++ more) ++ names) (dash ∷ []) type ∙ (append_assoc (words ++ more) names (dash ∷ type) ∙ append_assoc words more (names ++ dash ∷ type))

-- one more
pub group_more : (text : List ℕ) (words : List PlacedWord) (at behind to : ℕ) (found : List TypedValue) (group : List (List ℕ)) (type : List (List ℕ)) (dash : PlacedWord) (read : ReadsGroups text words at found)
    (names : ReadsNames text (words ++ read.more) behind group) → group ≢ [] → dash.kind ≡ Dash → ReadsTree (IsType type) text (((words ++ read.more) ++ names.more) ++ dash ∷ []) 126 to
    → ReadsGroups text words to (found ++ of_type group type)
group_more text words at behind to found group type dash read names some is_dash named = record {
  more = read.more ++ (names.more ++ dash ∷ named.more);
  items = read.items ++ (map placed_leaf names.more ++ placed_leaf dash ∷ named.item ∷ []);
  lexed = subst (λ ws. LexedTo text ws to) (words_more words read.more names.more named.more dash) named.lexed;
  form = items_append read.form (names.more ++ dash ∷ named.more) (map placed_leaf names.more ++ placed_leaf dash ∷ named.item ∷ [])
      (items_append (names_form 126 group names.more names.are) (dash ∷ named.more) (placed_leaf dash ∷ named.item ∷ [])
      (plain dash (not_kind dash Dash Open is_dash (λ e. absurd (cc (e)))) (not_kind dash Dash Close is_dash (λ e. absurd (cc (e)))) named.form));
  before = λ xs ts are.
      subst (λ us. AreTypedNames ((found ++ of_type group type) ++ xs) us) (sym (trees_more read.items (map placed_leaf names.more) (placed_leaf dash) named.item ts))
      (subst (λ ys. AreTypedNames ys (map erased read.items ++ (map erased (map placed_leaf names.more) ++ erased (placed_leaf dash) ∷ erased named.item ∷ ts))) (sym (append_assoc found (of_type group type) xs))
      (read.before (of_type group type ++ xs) (map erased (map placed_leaf names.more) ++ erased (placed_leaf dash) ∷ erased named.item ∷ ts)
      (typed_more group type (map erased (map placed_leaf names.more)) (erased (placed_leaf dash)) (erased named.item) xs ts some names.are is_dash named.holds are)));
}

-- the whole list, whose last group has no type
pub objects_part : (text : List ℕ) (words : List PlacedWord) (at behind to : ℕ) (found : List TypedValue) (group : List (List ℕ)) (read : ReadsGroups text words at found)
    (names : ReadsNames text (words ++ read.more) behind group) → ReadsSign text ((words ++ read.more) ++ names.more) to Close → ReadsPart keys.Objects (objects (found ++ of_type group object)) text words to
objects_part text words at behind to found group read names (closing, is_close, lexed) =
    let leaves = map placed_leaf names.more in
    let are = read.before (of_type group object) (map erased leaves) (untyped (each_of_type group object (map erased leaves) names.are)) in
    record {
      more = read.more ++ names.more;
      items = read.items ++ leaves;
      form = items_append read.form names.more leaves (names_form 126 group names.more names.are);
      says = ap (option_map objects)
          (names_complete (map erased (read.items ++ leaves)) (found ++ of_type group object) (subst (AreTypedNames (found ++ of_type group object)) (sym (map-append erased read.items leaves)) are));
      closing = closing;
      is_close = is_close;
      lexed = subst (λ ws. LexedTo text (ws ++ closing ∷ []) to) (append_assoc words read.more names.more) lexed;
    }
