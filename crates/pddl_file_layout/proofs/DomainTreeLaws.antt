-- The canonical tree of a domain spells it.
use Rattle.std.proofs.Common.{◌≡◌, ℕ, true, ◌&&◌, List, [], ◌∷◌, ◌++◌, map, refl, sym, ap, ◌∙◌, subst, codes, inl, append_assoc, append-nil, arith}
use Rattle.std.specs.List.{list_all}
use Rattle.pddl_token.specs.Trees.{Tree, Placed, erased}
use Rattle.pddl_token.specs.Names.{is_name}
use Rattle.pddl_token.specs.TreeWords.{list, Each}
use Rattle.pddl_formula.specs.Reserved.{is_predicate, is_type_name, is_type}
use Rattle.pddl_formula.specs.TypedLists.{TypedValue, untyped}
use Rattle.pddl_sections.specs.Sections.{Fits}
use Rattle.pddl_sections.specs.Files.{IsTitle}
use Rattle.pddl_file.specs.declared.keyword.SectionKeyword.{SectionKeyword}
use Rattle.pddl_file.specs.declared.keyword.SectionKeyword.TheVariants as keys
use Rattle.pddl_file.specs.Keywords.{IsHeaded}
use Rattle.pddl_file.specs.Flags.{IsFlag}
use Rattle.pddl_domain.specs.Declarations.{TypeValue, Signature, FunctionValue, AreTypes, IsPredicateSignature, AreFunctions}
use Rattle.pddl_domain.specs.Actions.{ActionValue, parameters, precondition, effect, IsAction}
use Rattle.pddl_domain.specs.Domains.{DomainValue}
use Rattle.pddl_domain_reader.specs.DomainTexts.{Part, requirements, types, constants, predicates, functions, action, requirements_in, types_in, constants_in, predicates_in, functions_in, actions_in, part_key, IsPart, domain_rules, AreDomain}
use Rattle.pddl_file_layout.specs.FormulaValues.{is_typed, is_formula, is_effect}
use Rattle.pddl_file_layout.specs.FormulaTrees.{name_tree, variable_tree, type_tree, typed_trees, variables_tree, formula_tree, effect_tree}
use Rattle.pddl_file_layout.specs.Inner.PartLists.{part_list}
use Rattle.pddl_file_layout.specs.DomainLayout.{is_declared_type, is_declared_predicate, is_declared_function, is_action, is_domain, keyword_tree, flag_tree, section_trees, type_trees, signature_tree, function_trees, declaration_trees, action_tree, domain_tree}
use Rattle.pddl_file_layout.proofs.Assembling.{each_append, adds_nothing, adds_its_own, none_add, each_adds, Rising, never_repeats, rising_part, rising_many, opened_as}
use Rattle.pddl_file_layout.proofs.FormulaTreeLaws.{and_parts, name_folds, spells_name, each_of, spells_predicate, spells_type_name, spells_type, one_typed, spells_variables, spells_names, spells_variable_list, spells_formula, spells_effect}

-- ---- declarations

pub spells_flag : (n : List ℕ) → is_name n ≡ true → IsFlag n (flag_tree n)
spells_flag n h = (h, refl, (n, refl, name_folds n h))

spells_types : (ts : List TypeValue) → list_all is_declared_type ts ≡ true → AreTypes ts (type_trees ts)
spells_types [] h = untyped tt
spells_types (t ∷ ts) h =
    let p = and_parts (is_declared_type t) (list_all is_declared_type ts) h in
    let q = and_parts (is_type_name t.item) (is_type_name t.of) p.0 in
    one_typed t ts (name_tree t.item) (name_tree t.of) (type_trees ts) (spells_type_name t.item q.0) (spells_type_name t.of q.1) (spells_types ts p.1)

spells_declared_predicate : (p : Signature) → is_declared_predicate p ≡ true → IsPredicateSignature p (signature_tree p)
spells_declared_predicate p h =
    let q = and_parts (is_predicate p.name) (list_all is_typed p.parameters) h in
    (name_tree p.name, typed_trees variable_tree p.parameters, refl, spells_predicate p.name q.0, spells_variables p.parameters q.1)

spells_functions : (fs : List FunctionValue) → list_all is_declared_function fs ≡ true → AreFunctions fs (function_trees fs)
spells_functions [] h = untyped tt
spells_functions (f ∷ fs) h =
    let p = and_parts (is_declared_function f) (list_all is_declared_function fs) h in
    let q = and_parts (is_name f.item.name && list_all is_typed f.item.parameters) (is_type f.of) p.0 in
    let r = and_parts (is_name f.item.name) (list_all is_typed f.item.parameters) q.0 in
    one_typed f fs (signature_tree f.item) (type_tree f.of) (function_trees fs)
    (name_tree f.item.name, typed_trees variable_tree f.item.parameters, refl, spells_name f.item.name r.0, spells_variables f.item.parameters r.1) (spells_type f.of q.1) (spells_functions fs p.1)

-- ---- actions

spells_action : (a : ActionValue) → is_action a ≡ true → IsPart (action a) (action_tree a)
spells_action a h =
    let p = and_parts (is_name a.name && list_all is_typed a.parameters) (is_formula a.precondition && is_effect a.effect) h in
    let q = and_parts (is_name a.name) (list_all is_typed a.parameters) p.0 in
    let r = and_parts (is_formula a.precondition) (is_effect a.effect) p.1 in
    let rest : List Tree =
    keyword_tree (codes ":parameters") ∷ variables_tree a.parameters ∷ keyword_tree (codes ":precondition") ∷ formula_tree a.precondition
    ∷ keyword_tree (codes ":effect") ∷ effect_tree a.effect ∷ [] in
    let is : IsAction a (name_tree a.name ∷ rest) = record {
      title = name_tree a.name;
      rest = rest;
      fields = parameters a.parameters ∷ precondition a.precondition ∷ effect a.effect ∷ [];
      trees_are = refl;
      name = spells_name a.name q.0;
      fields_are = (((refl, refl), spells_variable_list a.parameters q.1), (((refl, refl), inl (spells_formula a.precondition r.0)), (((refl, refl), inl (spells_effect a.effect r.1)), tt)));
      parameters_are = refl;
      precondition_is = refl;
      effect_is = refl;
    } in
    (name_tree a.name ∷ rest, (keyword_tree (codes ":action"), refl, (refl, refl)), is)

-- ---- sections

-- the sections of a domain in their canonical order
abbrev parts_of : DomainValue → List Part
parts_of d =
    part_list requirements d.requirements
    ++ (part_list types d.types
    ++ (part_list constants d.constants
    ++ (part_list predicates d.predicates
    ++ (part_list functions d.functions ++ map action d.actions))))

requirements_fit : (flags : List (List ℕ)) → list_all is_name flags ≡ true → Each IsPart (part_list requirements flags) (section_trees (codes ":requirements") (map flag_tree flags))
requirements_fit [] h = tt
requirements_fit (n ∷ ns) h = ((map flag_tree (n ∷ ns), (keyword_tree (codes ":requirements"), refl, (refl, refl)), each_of is_name IsFlag flag_tree spells_flag (n ∷ ns) h), tt)

types_fit : (ts : List TypeValue) → list_all is_declared_type ts ≡ true → Each IsPart (part_list types ts) (section_trees (codes ":types") (type_trees ts))
types_fit [] h = tt
types_fit (t ∷ ts) h = ((type_trees (t ∷ ts), (keyword_tree (codes ":types"), refl, (refl, refl)), spells_types (t ∷ ts) h), tt)

constants_fit : (xs : List TypedValue) → list_all is_typed xs ≡ true → Each IsPart (part_list constants xs) (section_trees (codes ":constants") (typed_trees name_tree xs))
constants_fit [] h = tt
constants_fit (x ∷ xs) h = ((typed_trees name_tree (x ∷ xs), (keyword_tree (codes ":constants"), refl, (refl, refl)), spells_names (x ∷ xs) h), tt)

predicates_fit : (ps : List Signature) → list_all is_declared_predicate ps ≡ true → Each IsPart (part_list predicates ps) (section_trees (codes ":predicates") (map signature_tree ps))
predicates_fit [] h = tt
predicates_fit (p ∷ ps) h = (
  (
    map signature_tree (p ∷ ps),
    (keyword_tree (codes ":predicates"), refl, (refl, refl)),
    each_of is_declared_predicate IsPredicateSignature signature_tree spells_declared_predicate (p ∷ ps) h,
  ),
  tt,
)

functions_fit : (fs : List FunctionValue) → list_all is_declared_function fs ≡ true → Each IsPart (part_list functions fs) (section_trees (codes ":functions") (function_trees fs))
functions_fit [] h = tt
functions_fit (f ∷ fs) h = ((function_trees (f ∷ fs), (keyword_tree (codes ":functions"), refl, (refl, refl)), spells_functions (f ∷ fs) h), tt)

actions_fit : (acts : List ActionValue) → list_all is_action acts ≡ true → Each IsPart (map action acts) (map action_tree acts)
actions_fit [] h = tt
actions_fit (a ∷ acts) h = let p = and_parts (is_action a) (list_all is_action acts) h in (spells_action a p.0, actions_fit acts p.1)

-- the keyword of each section
parts_keyed : (parts : List Part) (ts : List Tree) → Each IsPart parts ts → Each IsHeaded (map part_key parts) ts
parts_keyed [] [] each = tt
parts_keyed [] (t ∷ ts) each = absurd each
parts_keyed (x ∷ parts) [] each = absurd each
parts_keyed (x ∷ parts) (t ∷ ts) ((us, section, content), rest) = ((us, section), parts_keyed parts ts rest)

-- the canonical order
abbrev rank : SectionKeyword → ℕ
rank keys.Requirements = 0
rank keys.Types = 1
rank keys.Constants = 2
rank keys.Predicates = 3
rank keys.Functions = 4
rank keys.Action = 5
rank key = 6

parts_rise : (d : DomainValue) → Rising rank 0 (map part_key (parts_of d))
parts_rise d =
    rising_part rank part_key requirements keys.Requirements (λ xs. refl) tt 0 d.requirements _ (omega arith)
    (rising_part rank part_key types keys.Types (λ xs. refl) tt 1 d.types _ (omega arith)
    (rising_part rank part_key constants keys.Constants (λ xs. refl) tt 2 d.constants _ (omega arith)
    (rising_part rank part_key predicates keys.Predicates (λ xs. refl) tt 3 d.predicates _ (omega arith)
    (rising_part rank part_key functions keys.Functions (λ xs. refl) tt 4 d.functions _ (omega arith)
    (rising_many rank part_key action keys.Action (λ a. refl) (λ single. single) 5 d.actions (omega arith))))))

-- the trees of the sections
abbrev trees_of_sections : DomainValue → List Tree
trees_of_sections d = declaration_trees d ++ map action_tree d.actions

sections_regrouped : (a b c e f g : List Tree) → (a ++ (b ++ (c ++ (e ++ f)))) ++ g ≡ a ++ (b ++ (c ++ (e ++ (f ++ g))))
sections_regrouped a b c e f g =
    append_assoc a (b ++ (c ++ (e ++ f))) g ∙ ap (λ (xs : List Tree). a ++ xs)
    (append_assoc b (c ++ (e ++ f)) g ∙ ap (λ (xs : List Tree). b ++ xs) (append_assoc c (e ++ f) g ∙ ap (λ (xs : List Tree). c ++ xs) (append_assoc e f g)))

parts_fit : (d : DomainValue) → is_domain d ≡ true → Each IsPart (parts_of d) (trees_of_sections d)
parts_fit d h =
    let p = and_parts ((is_name d.name && list_all is_name d.requirements) && (list_all is_declared_type d.types && list_all is_typed d.constants))
    ((list_all is_declared_predicate d.predicates && list_all is_declared_function d.functions) && list_all is_action d.actions) h in
    let q = and_parts (is_name d.name && list_all is_name d.requirements) (list_all is_declared_type d.types && list_all is_typed d.constants) p.0 in
    let r = and_parts (list_all is_declared_predicate d.predicates && list_all is_declared_function d.functions) (list_all is_action d.actions) p.1 in
    let named = and_parts (is_name d.name) (list_all is_name d.requirements) q.0 in
    let typed_parts = and_parts (list_all is_declared_type d.types) (list_all is_typed d.constants) q.1 in
    let signed = and_parts (list_all is_declared_predicate d.predicates) (list_all is_declared_function d.functions) r.0 in
    let flags = section_trees (codes ":requirements") (map flag_tree d.requirements) in
    let kinds = section_trees (codes ":types") (type_trees d.types) in
    let names = section_trees (codes ":constants") (typed_trees name_tree d.constants) in
    let preds = section_trees (codes ":predicates") (map signature_tree d.predicates) in
    let funs = section_trees (codes ":functions") (function_trees d.functions) in
    subst (Each IsPart (parts_of d)) (sym (sections_regrouped flags kinds names preds funs (map action_tree d.actions)))
    (each_append IsPart (part_list requirements d.requirements) _ flags _ (requirements_fit d.requirements named.1)
    (each_append IsPart (part_list types d.types) _ kinds _ (types_fit d.types typed_parts.0)
    (each_append IsPart (part_list constants d.constants) _ names _ (constants_fit d.constants typed_parts.1)
    (each_append IsPart (part_list predicates d.predicates) _ preds _ (predicates_fit d.predicates signed.0)
    (each_append IsPart (part_list functions d.functions) _ funs _ (functions_fit d.functions signed.1) (actions_fit d.actions r.1))))))

sections_fit : (d : DomainValue) → is_domain d ≡ true → Fits domain_rules (parts_of d) (trees_of_sections d)
sections_fit d h =
    let each = parts_fit d h in
    let keyed = parts_keyed (parts_of d) (trees_of_sections d) each in
    record {
      each = each;
      once = λ before t after e repeats. never_repeats rank 0 (map part_key (parts_of d)) (trees_of_sections d) keyed (parts_rise d) before t after e repeats.0 repeats.1 repeats.2 repeats.3;
    }

-- ---- the whole

title_is : (d : DomainValue) → is_name d.name ≡ true → (t : Tree) → t ≡ list (name_tree (codes "domain") ∷ name_tree d.name ∷ []) → IsTitle (codes "domain") d.name t
title_is d h t e = (name_tree (codes "domain"), name_tree d.name, e, (refl, refl), spells_name d.name h)

-- Items that are the canonical tree of a domain spell it.
pub domain_spelled : (d : DomainValue) (items : List Placed) → is_domain d ≡ true → map erased items ≡ domain_tree d ∷ [] → AreDomain d items
domain_spelled d items h e =
    let p = and_parts ((is_name d.name && list_all is_name d.requirements) && (list_all is_declared_type d.types && list_all is_typed d.constants))
    ((list_all is_declared_predicate d.predicates && list_all is_declared_function d.functions) && list_all is_action d.actions) h in
    let q = and_parts (is_name d.name && list_all is_name d.requirements) (list_all is_declared_type d.types && list_all is_typed d.constants) p.0 in
    let named = and_parts (is_name d.name) (list_all is_name d.requirements) q.0 in
    let title : Tree = list (name_tree (codes "domain") ∷ name_tree d.name ∷ []) in
    let (sections, opened, trees) = opened_as (codes "domain") d.name (trees_of_sections d) title items e (title_is d named.0) in
    record {
      parts = parts_of d;
      file = record { sections = sections; opened = opened; fits = subst (Fits domain_rules (parts_of d)) (sym trees) (sections_fit d h); complete = tt };
      requirements_are = sym (adds_its_own requirements_in requirements (λ xs. refl) d.requirements _
          ∙ (ap (λ (xs : List (List ℕ)). d.requirements ++ xs)
          (adds_nothing requirements_in types (λ xs. refl) d.types _ ∙ (adds_nothing requirements_in constants (λ xs. refl) d.constants _
          ∙ (adds_nothing requirements_in predicates (λ xs. refl) d.predicates _ ∙ (adds_nothing requirements_in functions (λ xs. refl) d.functions _ ∙ none_add requirements_in action (λ a. refl) d.actions))))
          ∙ append-nil d.requirements));
      types_are = sym (adds_nothing types_in requirements (λ xs. refl) d.requirements _ ∙ (adds_its_own types_in types (λ xs. refl) d.types _
          ∙ (ap (λ (xs : List TypeValue). d.types ++ xs)
          (adds_nothing types_in constants (λ xs. refl) d.constants _
          ∙ (adds_nothing types_in predicates (λ xs. refl) d.predicates _ ∙ (adds_nothing types_in functions (λ xs. refl) d.functions _ ∙ none_add types_in action (λ a. refl) d.actions)))
          ∙ append-nil d.types)));
      constants_are = sym (adds_nothing constants_in requirements (λ xs. refl) d.requirements _ ∙ (adds_nothing constants_in types (λ xs. refl) d.types _
          ∙ (adds_its_own constants_in constants (λ xs. refl) d.constants _
          ∙ (ap (λ (xs : List TypedValue). d.constants ++ xs)
          (adds_nothing constants_in predicates (λ xs. refl) d.predicates _ ∙ (adds_nothing constants_in functions (λ xs. refl) d.functions _ ∙ none_add constants_in action (λ a. refl) d.actions))
          ∙ append-nil d.constants))));
      predicates_are = sym (adds_nothing predicates_in requirements (λ xs. refl) d.requirements _ ∙ (adds_nothing predicates_in types (λ xs. refl) d.types _
          ∙ (adds_nothing predicates_in constants (λ xs. refl) d.constants _ ∙ (adds_its_own predicates_in predicates (λ xs. refl) d.predicates _
          ∙ (ap (λ (xs : List Signature). d.predicates ++ xs)
          (adds_nothing predicates_in functions (λ xs. refl) d.functions _ ∙ none_add predicates_in action (λ a. refl) d.actions)
          ∙ append-nil d.predicates)))));
      functions_are = sym (adds_nothing functions_in requirements (λ xs. refl) d.requirements _ ∙ (adds_nothing functions_in types (λ xs. refl) d.types _
          ∙ (adds_nothing functions_in constants (λ xs. refl) d.constants _ ∙ (adds_nothing functions_in predicates (λ xs. refl) d.predicates _
          ∙ (adds_its_own functions_in functions (λ xs. refl) d.functions _
          ∙ (ap (λ (xs : List FunctionValue). d.functions ++ xs) (none_add functions_in action (λ a. refl) d.actions) ∙ append-nil d.functions))))));
      actions_are = sym (adds_nothing actions_in requirements (λ xs. refl) d.requirements _ ∙ (adds_nothing actions_in types (λ xs. refl) d.types _
          ∙ (adds_nothing actions_in constants (λ xs. refl) d.constants _ ∙ (adds_nothing actions_in predicates (λ xs. refl) d.predicates _
          ∙ (adds_nothing actions_in functions (λ xs. refl) d.functions _ ∙ each_adds actions_in action (λ a. refl) d.actions)))));
    }
