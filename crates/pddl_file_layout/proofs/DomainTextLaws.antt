-- The canonical text of a domain reads back as the domain.
use Rattle.std.proofs.Common.{◌≡◌, ℕ, ◌≤◌, true, ◌&&◌, List, [], ◌∷◌, ◌++◌, length, map, refl, sym, ap, ap₂, ◌∙◌, subst, codes, append_assoc, append-nil}
use Rattle.std.specs.List.{flat_map, list_all}
use Rattle.pddl_token.specs.Spelling.{Word}
use Rattle.pddl_token.specs.Trees.{Tree, Placed, no_trees, tree, trees_of}
use Rattle.pddl_text.specs.Pieces.{Piece, token, blanks, pieces_text, tokens_of, AreWritten, opening_word, closing_word, tree_words, trees_words, IsWritable, IsWithin, tree_pieces, tree_text}
use Rattle.pddl_text.specs.Texts.{HasItems, ReadsAs}
use Rattle.pddl_text.proofs.Written.{pieces_append, written_append, tokens_append, tree_written, tree_tokens}
use Rattle.pddl_text.proofs.Listed.{reads_back}
use Rattle.pddl_text.proofs.Levels.{levels_as_read}
use Rattle.pddl_token.specs.Names.{is_name}
use Rattle.pddl_formula.specs.Reserved.{is_predicate, is_type_name, is_type}
use Rattle.pddl_domain.specs.Declarations.{TypeValue, Signature, FunctionValue}
use Rattle.pddl_domain.specs.Actions.{ActionValue}
use Rattle.pddl_domain.specs.Domains.{DomainValue}
use Rattle.pddl_domain_reader.specs.DomainTexts.{SpellsDomain}
use Rattle.pddl_sections.specs.Sections.{AllOf}
use Rattle.pddl_file_layout.specs.FormulaValues.{is_typed, is_formula, is_effect}
use Rattle.pddl_file_layout.specs.FormulaTrees.{name_tree, variable_tree, dash, type_tree, typed_trees, variables_tree, formula_tree, effect_tree}
use Rattle.pddl_file_layout.specs.DomainLayout.{is_declared_type, is_declared_predicate, is_declared_function, is_action, is_domain, flag_tree, section_trees, type_trees, signature_tree, function_trees, declaration_trees, action_tree, domain_tree, section_line, action_text, domain_text}
use Rattle.pddl_file_layout.specs.Inner.DomainPieces.{name_word, keyword_word, section_pieces, action_pieces, end_pieces, domain_pieces}
use Rattle.pddl_file_layout.proofs.FormulaTreeLaws.{and_parts}
use Rattle.pddl_file_layout.proofs.WritableTrees.{all_blank, keyword_writable, section_writable, all_pass, name_formed, keyword_formed, all_writable, all_append, all_of_each, all_of_lists, name_writable, variable_writable, flag_writable, dash_writable, predicate_writable, type_name_writable, type_writable, typed_writable, variables_writable, formula_writable, effect_writable}
use Rattle.pddl_file_layout.proofs.PiecesOfLines.{map_same, words_append, group_text, group_tokens, group_written, section_text, section_tokens, section_written, end_written}
use Rattle.pddl_domain_reader.proofs.DomainTextLaws.{one_domain}
use Rattle.pddl_file_layout.proofs.DomainTreeLaws.{domain_spelled}
use Rattle.pddl_file_layout.proofs.GoodDomains.{domain_good}

-- ---- bytes

action_bytes : (a : ActionValue) → pieces_text (action_pieces a) ≡ action_text a
action_bytes a =
    let third : List Piece = token closing_word ∷ blanks (codes "\n") ∷ [] in
    let second : List Piece = blanks (codes "\n    ") ∷ token (keyword_word (codes ":effect")) ∷ blanks (codes " ") ∷ (tree_pieces (effect_tree a.effect) ++ third) in
    let first : List Piece = blanks (codes "\n    ") ∷ token (keyword_word (codes ":precondition")) ∷ blanks (codes " ") ∷ (tree_pieces (formula_tree a.precondition) ++ second) in
    ap (λ (x : List ℕ). codes "  (:action " ++ (a.name ++ (codes "\n    :parameters " ++ x)))
    (pieces_append (tree_pieces (variables_tree a.parameters)) first
    ∙ ap (λ (x : List ℕ). tree_text (variables_tree a.parameters) ++ (codes "\n    :precondition " ++ x))
    (pieces_append (tree_pieces (formula_tree a.precondition)) second
    ∙ ap (λ (x : List ℕ). tree_text (formula_tree a.precondition) ++ (codes "\n    :effect " ++ x)) (pieces_append (tree_pieces (effect_tree a.effect)) third)))

domain_bytes : (d : DomainValue) → pieces_text (domain_pieces d) ≡ domain_text d
domain_bytes d =
    ap (λ (x : List ℕ). codes "(define (domain " ++ (d.name ++ (codes ")\n" ++ x)))
    (group_text section_pieces section_line section_text (declaration_trees d) (flat_map action_pieces d.actions ++ end_pieces)
    ∙ ap (λ (x : List ℕ). flat_map section_line (declaration_trees d) ++ x) (group_text action_pieces action_text action_bytes d.actions end_pieces))

-- ---- words

action_words : (a : ActionValue) → tokens_of (action_pieces a) ≡ tree_words (action_tree a)
action_words a =
    let third : List Piece = token closing_word ∷ blanks (codes "\n") ∷ [] in
    let second : List Piece = blanks (codes "\n    ") ∷ token (keyword_word (codes ":effect")) ∷ blanks (codes " ") ∷ (tree_pieces (effect_tree a.effect) ++ third) in
    let first : List Piece = blanks (codes "\n    ") ∷ token (keyword_word (codes ":precondition")) ∷ blanks (codes " ") ∷ (tree_pieces (formula_tree a.precondition) ++ second) in
    let v = tree_words (variables_tree a.parameters) in
    let f = tree_words (formula_tree a.precondition) in
    let e = tree_words (effect_tree a.effect) in
    let front : List Word → List Word = λ ws. opening_word ∷ keyword_word (codes ":action") ∷ name_word a.name ∷ keyword_word (codes ":parameters") ∷ ws in
    ap front
    (tokens_append (tree_pieces (variables_tree a.parameters)) first
    ∙ ap₂ (λ (x y : List Word). x ++ keyword_word (codes ":precondition") ∷ y) (tree_tokens (variables_tree a.parameters))
    (tokens_append (tree_pieces (formula_tree a.precondition)) second
    ∙ ap₂ (λ (x y : List Word). x ++ keyword_word (codes ":effect") ∷ y) (tree_tokens (formula_tree a.precondition))
    (tokens_append (tree_pieces (effect_tree a.effect)) third ∙ ap (λ (x : List Word). x ++ closing_word ∷ []) (tree_tokens (effect_tree a.effect))))
    ∙ sym (append_assoc v (keyword_word (codes ":precondition") ∷ (f ++ keyword_word (codes ":effect") ∷ (e ++ []))) (closing_word ∷ [])
    ∙ ap (λ (x : List Word). v ++ keyword_word (codes ":precondition") ∷ x)
    (append_assoc f (keyword_word (codes ":effect") ∷ (e ++ [])) (closing_word ∷ [])
    ∙ ap (λ (x : List Word). f ++ keyword_word (codes ":effect") ∷ x) (append_assoc e [] (closing_word ∷ [])))))

domain_words : (d : DomainValue) → tokens_of (domain_pieces d) ≡ trees_words (tree (domain_tree d) no_trees)
domain_words d =
    let front : List Word → List Word = λ ws. opening_word ∷ name_word (codes "define") ∷ opening_word ∷ name_word (codes "domain") ∷ name_word d.name ∷ closing_word ∷ ws in
    let sections = trees_words (trees_of (declaration_trees d)) in
    let acts = trees_words (trees_of (map action_tree d.actions)) in
    ap front
    (group_tokens section_pieces (λ (t : Tree). t) section_tokens (declaration_trees d) (flat_map action_pieces d.actions ++ end_pieces)
    ∙ ap₂ (λ (x y : List Word). x ++ y) (ap (λ (ts : List Tree). trees_words (trees_of ts)) (map_same (declaration_trees d)))
    (group_tokens action_pieces action_tree action_words d.actions end_pieces)
    ∙ sym (append_assoc sections acts (closing_word ∷ []))
    ∙ ap (λ (x : List Word). x ++ closing_word ∷ []) (sym (words_append (declaration_trees d) (map action_tree d.actions))))
    ∙ sym (append-nil (tree_words (domain_tree d)))

-- ---- they can be written

signature_writable : (s : Signature) → is_name s.name ≡ true → list_all is_typed s.parameters ≡ true → IsWritable (signature_tree s)
signature_writable s named h = all_writable (name_tree s.name ∷ typed_trees variable_tree s.parameters) (name_writable s.name named, typed_writable variable_tree variable_writable s.parameters h)

types_writable : (ts : List TypeValue) → list_all is_declared_type ts ≡ true → AllOf IsWritable (type_trees ts)
types_writable ts h =
    all_of_lists is_declared_type (λ (t : TypeValue). name_tree t.item ∷ dash ∷ name_tree t.of ∷ [])
    (λ t good. let q = and_parts (is_type_name t.item) (is_type_name t.of) good in (type_name_writable t.item q.0, (dash_writable, (type_name_writable t.of q.1, tt)))) ts h

predicate_part_writable : (p : Signature) → is_declared_predicate p ≡ true → IsWritable (signature_tree p)
predicate_part_writable p h =
    let q = and_parts (is_predicate p.name) (list_all is_typed p.parameters) h in
    all_writable (name_tree p.name ∷ typed_trees variable_tree p.parameters) (predicate_writable p.name q.0, typed_writable variable_tree variable_writable p.parameters q.1)

functions_writable : (fs : List FunctionValue) → list_all is_declared_function fs ≡ true → AllOf IsWritable (function_trees fs)
functions_writable fs h =
    all_of_lists is_declared_function (λ (f : FunctionValue). signature_tree f.item ∷ dash ∷ type_tree f.of ∷ [])
    (λ f good.
    let q = and_parts (is_name f.item.name && list_all is_typed f.item.parameters) (is_type f.of) good in
    let r = and_parts (is_name f.item.name) (list_all is_typed f.item.parameters) q.0 in
    (signature_writable f.item r.0 r.1, (dash_writable, (type_writable f.of q.1, tt)))) fs h

action_tree_writable : (a : ActionValue) → is_action a ≡ true → IsWritable (action_tree a)
action_tree_writable a h =
    let p = and_parts (is_name a.name && list_all is_typed a.parameters) (is_formula a.precondition && is_effect a.effect) h in
    let q = and_parts (is_name a.name) (list_all is_typed a.parameters) p.0 in
    let r = and_parts (is_formula a.precondition) (is_effect a.effect) p.1 in (
      keyword_writable (codes "action") refl,
      (
        name_writable a.name q.0,
        (
          keyword_writable (codes "parameters") refl,
          (
            variables_writable a.parameters q.1,
            (keyword_writable (codes "precondition") refl, (formula_writable a.precondition r.0, (keyword_writable (codes "effect") refl, (effect_writable a.effect r.1, tt)))),
          ),
        ),
      ),
    )

action_written : (a : ActionValue) (after : List ℕ) → is_action a ≡ true → AreWritten (action_pieces a) after
action_written a after h =
    let p = and_parts (is_name a.name && list_all is_typed a.parameters) (is_formula a.precondition && is_effect a.effect) h in
    let q = and_parts (is_name a.name) (list_all is_typed a.parameters) p.0 in
    let r = and_parts (is_formula a.precondition) (is_effect a.effect) p.1 in
    let third : List Piece = token closing_word ∷ blanks (codes "\n") ∷ [] in
    let second : List Piece = blanks (codes "\n    ") ∷ token (keyword_word (codes ":effect")) ∷ blanks (codes " ") ∷ (tree_pieces (effect_tree a.effect) ++ third) in
    let first : List Piece = blanks (codes "\n    ") ∷ token (keyword_word (codes ":precondition")) ∷ blanks (codes " ") ∷ (tree_pieces (formula_tree a.precondition) ++ second) in (
      all_blank (codes "  ") refl,
      (
        (refl, λ bad. absurd (cc (bad))),
        tt,
        (
          keyword_formed (codes "action") refl,
          refl,
          (
            all_blank (codes " ") refl,
            (
              name_formed a.name q.0,
              refl,
              (
                all_blank (codes "\n    ") refl,
                (
                  keyword_formed (codes "parameters") refl,
                  refl,
                  (
                    all_blank (codes " ") refl,
                    written_append (tree_pieces (variables_tree a.parameters)) first after (tree_written (variables_tree a.parameters) (pieces_text first ++ after) (variables_writable a.parameters q.1) refl) (
                      all_blank (codes "\n    ") refl,
                      (
                        keyword_formed (codes "precondition") refl,
                        refl,
                        (
                          all_blank (codes " ") refl,
                          written_append (tree_pieces (formula_tree a.precondition)) second after (tree_written (formula_tree a.precondition) (pieces_text second ++ after) (formula_writable a.precondition r.0) refl) (
                            all_blank (codes "\n    ") refl,
                            (
                              keyword_formed (codes "effect") refl,
                              refl,
                              (
                                all_blank (codes " ") refl,
                                written_append (tree_pieces (effect_tree a.effect)) third after (tree_written (effect_tree a.effect) (pieces_text third ++ after) (effect_writable a.effect r.1) refl) (end_written after),
                              ),
                            ),
                          ),
                        ),
                      ),
                    ),
                  ),
                ),
              ),
            ),
          ),
        ),
      ),
    )

-- ---- the parts of a domain that the program can hold

record IsGood (d : DomainValue) : Type 0 where
  named : is_name d.name ≡ true
  flags : list_all is_name d.requirements ≡ true
  kinds : list_all is_declared_type d.types ≡ true
  constants : list_all is_typed d.constants ≡ true
  predicates : list_all is_declared_predicate d.predicates ≡ true
  functions : list_all is_declared_function d.functions ≡ true
  actions : list_all is_action d.actions ≡ true

good_parts : (d : DomainValue) → is_domain d ≡ true → IsGood d
good_parts d h =
    let p = and_parts ((is_name d.name && list_all is_name d.requirements) && (list_all is_declared_type d.types && list_all is_typed d.constants))
    ((list_all is_declared_predicate d.predicates && list_all is_declared_function d.functions) && list_all is_action d.actions) h in
    let q = and_parts (is_name d.name && list_all is_name d.requirements) (list_all is_declared_type d.types && list_all is_typed d.constants) p.0 in
    let r = and_parts (list_all is_declared_predicate d.predicates && list_all is_declared_function d.functions) (list_all is_action d.actions) p.1 in
    let named = and_parts (is_name d.name) (list_all is_name d.requirements) q.0 in
    let types = and_parts (list_all is_declared_type d.types) (list_all is_typed d.constants) q.1 in
    let signed = and_parts (list_all is_declared_predicate d.predicates) (list_all is_declared_function d.functions) r.0 in
    record { named = named.0; flags = named.1; kinds = types.0; constants = types.1; predicates = signed.0; functions = signed.1; actions = r.1 }

declarations_writable : (d : DomainValue) → IsGood d → AllOf IsWritable (declaration_trees d)
declarations_writable d good =
    all_append (section_trees (codes ":requirements") (map flag_tree d.requirements)) _
    (section_writable (codes "requirements") (map flag_tree d.requirements) refl (all_of_each is_name flag_tree flag_writable d.requirements good.flags))
    (all_append (section_trees (codes ":types") (type_trees d.types)) _
    (section_writable (codes "types") (type_trees d.types) refl (types_writable d.types good.kinds))
    (all_append (section_trees (codes ":constants") (typed_trees name_tree d.constants)) _
    (section_writable (codes "constants") (typed_trees name_tree d.constants) refl (typed_writable name_tree name_writable d.constants good.constants))
    (all_append (section_trees (codes ":predicates") (map signature_tree d.predicates)) _
    (section_writable (codes "predicates") (map signature_tree d.predicates) refl (all_of_each is_declared_predicate signature_tree predicate_part_writable d.predicates good.predicates))
    (section_writable (codes "functions") (function_trees d.functions) refl (functions_writable d.functions good.functions)))))

domain_written : (d : DomainValue) → IsGood d → AreWritten (domain_pieces d) []
domain_written d good = (
  (refl, λ bad. absurd (cc (bad))),
  tt,
  (
    name_formed (codes "define") refl,
    refl,
    (
      all_blank (codes " ") refl,
      (
        (refl, λ bad. absurd (cc (bad))),
        tt,
        (
          name_formed (codes "domain") refl,
          refl,
          (
            all_blank (codes " ") refl,
            (
              name_formed d.name good.named,
              refl,
              (
                (refl, λ bad. absurd (cc (bad))),
                tt,
                (
                  all_blank (codes "\n") refl,
                  group_written section_pieces IsWritable section_written (declaration_trees d) (flat_map action_pieces d.actions ++ end_pieces) [] (declarations_writable d good)
                      (group_written action_pieces (λ a. is_action a ≡ true) action_written d.actions end_pieces [] (all_pass is_action d.actions good.actions) (end_written [])),
                ),
              ),
            ),
          ),
        ),
      ),
    ),
  ),
)

domain_tree_writable : (d : DomainValue) → IsGood d → IsWritable (domain_tree d)
domain_tree_writable d good = (
  name_writable (codes "define") refl,
  (
    (name_writable (codes "domain") refl, (name_writable d.name good.named, tt)),
    all_writable (declaration_trees d ++ map action_tree d.actions)
        (all_append (declaration_trees d) (map action_tree d.actions) (declarations_writable d good) (all_of_each is_action action_tree action_tree_writable d.actions good.actions)),
  ),
)

-- ---- the law

pub domain_reads_back : (d : DomainValue) → is_domain d ≡ true → IsWithin 128 (domain_tree d) → length (domain_text d) ≤ 16777216 → SpellsDomain d (domain_text d)
domain_reads_back d h within short =
    let good = good_parts d h in
    let text_is = domain_bytes d in
    let reads : ReadsAs (pieces_text (domain_pieces d)) (domain_tree d ∷ []) =
    reads_back (domain_pieces d) (tree (domain_tree d) no_trees) (domain_written d good) (domain_words d) (domain_tree_writable d good, tt) (within, tt)
    (subst (λ t. length t ≤ 16777216) (sym text_is) short) in
    record {
      items = reads.items;
      has = subst (λ t. HasItems t reads.items) text_is reads.has;
      domain_is = domain_spelled d reads.items h reads.trees_are;
    }

-- a tree whose text has items is within the limit of levels
pub domain_levels : (d : DomainValue) (items : List Placed) → is_domain d ≡ true → HasItems (domain_text d) items → IsWithin 128 (domain_tree d)
domain_levels d items h has =
    let good = good_parts d h in
    (levels_as_read (domain_pieces d) (tree (domain_tree d) no_trees) items (domain_written d good) (domain_words d) (domain_tree_writable d good, tt) (subst (λ t. HasItems t items) (sym (domain_bytes d)) has)).0

pub one_canonical_domain : (d e : DomainValue) (text more : List ℕ) → SpellsDomain d text → SpellsDomain e more → IsWithin 128 (domain_tree d) → IsWithin 128 (domain_tree e)
    → length (domain_text d) ≤ 16777216 → length (domain_text e) ≤ 16777216 → domain_text d ≡ domain_text e → d ≡ e
one_canonical_domain d e text more p q within inside short brief same =
    one_domain (domain_text e) d e
    (subst (SpellsDomain d) same (domain_reads_back d (domain_good d p.items p.domain_is) within short))
    (domain_reads_back e (domain_good e q.items q.domain_is) inside brief)
