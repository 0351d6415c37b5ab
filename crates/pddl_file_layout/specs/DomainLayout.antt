-- The canonical trees and the canonical text of a domain (own).
use Rattle.std.specs.Prelude.{ℕ, List, [], ◌∷◌, ◌++◌, map, Bool, ◌&&◌, codes}
use Rattle.std.specs.List.{flat_map, list_all}
use Rattle.pddl_token.specs.declared.token.TokenKind.TheVariants.{Keyword}
use Rattle.pddl_text.specs.Pieces.{tree_text}
use Rattle.pddl_token.specs.Trees.{Tree, leaf}
use Rattle.pddl_token.specs.Names.{is_name}
use Rattle.pddl_token.specs.TreeWords.{list}
use Rattle.pddl_formula.specs.Reserved.{is_predicate, is_type_name, is_type}
use Rattle.pddl_domain.specs.Declarations.{TypeValue, Signature, FunctionValue}
use Rattle.pddl_domain.specs.Actions.{ActionValue}
use Rattle.pddl_domain.specs.Domains.{DomainValue}
use Rattle.pddl_file_layout.specs.FormulaValues.{is_typed, is_formula, is_effect}
use Rattle.pddl_file_layout.specs.FormulaTrees.{name_tree, variable_tree, dash, type_tree, typed_trees, variables_tree, formula_tree, effect_tree}

-- ---- which domains the program can hold

-- a type and its parent are primitive types
abbrev pub is_declared_type : TypeValue → Bool
is_declared_type t = is_type_name t.item && is_type_name t.of

-- a predicate and its parameters
abbrev pub is_declared_predicate : Signature → Bool
is_declared_predicate p = is_predicate p.name && list_all is_typed p.parameters

-- a function, its parameters, and the type of its result
abbrev pub is_declared_function : FunctionValue → Bool
is_declared_function f = (is_name f.item.name && list_all is_typed f.item.parameters) && is_type f.of

-- an action
abbrev pub is_action : ActionValue → Bool
is_action a = (is_name a.name && list_all is_typed a.parameters) && (is_formula a.precondition && is_effect a.effect)

-- all of a domain is such
abbrev pub is_domain : DomainValue → Bool
is_domain d =
    ((is_name d.name && list_all is_name d.requirements) && (list_all is_declared_type d.types && list_all is_typed d.constants))
    && ((list_all is_declared_predicate d.predicates && list_all is_declared_function d.functions) && list_all is_action d.actions)

-- ---- trees

-- a keyword, its colon included
abbrev pub keyword_tree : List ℕ → Tree
keyword_tree keyword = leaf (record { kind = Keyword; text = keyword })

-- a flag of `:requirements`
abbrev pub flag_tree : List ℕ → Tree
flag_tree n = keyword_tree (codes ":" ++ n)

-- a section, where it has content
abbrev pub section_trees : List ℕ → List Tree → List Tree
section_trees keyword [] = []
section_trees keyword (t ∷ ts) = list (keyword_tree keyword ∷ t ∷ ts) ∷ []

-- each type with its parent
abbrev pub type_trees : List TypeValue → List Tree
type_trees ts = flat_map (λ (t : TypeValue). name_tree t.item ∷ dash ∷ name_tree t.of ∷ []) ts

-- `(p typed variables)`
abbrev pub signature_tree : Signature → Tree
signature_tree s = list (name_tree s.name ∷ typed_trees variable_tree s.parameters)

-- each function with the type of its result
abbrev pub function_trees : List FunctionValue → List Tree
function_trees fs = flat_map (λ (f : FunctionValue). signature_tree f.item ∷ dash ∷ type_tree f.of ∷ []) fs

-- the sections that declare something, in their canonical order
abbrev pub declaration_trees : DomainValue → List Tree
declaration_trees d =
    section_trees (codes ":requirements") (map flag_tree d.requirements)
    ++ (section_trees (codes ":types") (type_trees d.types)
    ++ (section_trees (codes ":constants") (typed_trees name_tree d.constants)
    ++ (section_trees (codes ":predicates") (map signature_tree d.predicates)
    ++ section_trees (codes ":functions") (function_trees d.functions))))

-- all four parts of an action stand, the empty ones too
abbrev pub action_tree : ActionValue → Tree
action_tree a = list
    (keyword_tree (codes ":action") ∷ name_tree a.name ∷ keyword_tree (codes ":parameters") ∷ variables_tree a.parameters
    ∷ keyword_tree (codes ":precondition") ∷ formula_tree a.precondition ∷ keyword_tree (codes ":effect") ∷ effect_tree a.effect ∷ [])

-- the whole
abbrev pub domain_tree : DomainValue → Tree
domain_tree d =
    list (name_tree (codes "define") ∷ list (name_tree (codes "domain") ∷ name_tree d.name ∷ []) ∷ (declaration_trees d ++ map action_tree d.actions))

-- ---- text

-- a section on a line of its own, behind two spaces
abbrev pub section_line : Tree → List ℕ
section_line t = codes "  " ++ (tree_text t ++ codes "\n")

-- an action on four lines
abbrev pub action_text : ActionValue → List ℕ
action_text a =
    codes "  (:action " ++ (a.name
    ++ (codes "\n    :parameters " ++ (tree_text (variables_tree a.parameters)
    ++ (codes "\n    :precondition " ++ (tree_text (formula_tree a.precondition)
    ++ (codes "\n    :effect " ++ (tree_text (effect_tree a.effect) ++ codes ")\n")))))))

-- the canonical text: one space between two words or lists, lower case, a line for each section, four for each action
abbrev pub domain_text : DomainValue → List ℕ
domain_text d =
    codes "(define (domain " ++ (d.name
    ++ (codes ")\n" ++ (flat_map section_line (declaration_trees d)
    ++ (flat_map action_text d.actions ++ codes ")\n"))))
