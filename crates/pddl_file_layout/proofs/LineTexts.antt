-- The canonical texts of domains and problems, piece by piece.
use Rattle.std.proofs.Common.{◌≡◌, ℕ, List, [], ◌∷◌, ◌++◌, map, refl, sym, ap, ap₂, ◌∙◌, codes, append_assoc, append-nil}
use Rattle.std.specs.Prelude.{Option, Some, None}
use Rattle.std.specs.List.{flat_map}
use Rattle.std.proofs.lemmas.Grind.{flat_map-append}
use Rattle.pddl_token.specs.Trees.{Tree}
use Rattle.pddl_text.specs.Pieces.{tree_text}
use Rattle.pddl_token.specs.TreeWords.{list}
use Rattle.pddl_formula.specs.TypedLists.{TypedValue}
use Rattle.pddl_domain.specs.Declarations.{TypeValue, Signature, FunctionValue}
use Rattle.pddl_domain.specs.Actions.{ActionValue}
use Rattle.pddl_domain.specs.Domains.{DomainValue}
use Rattle.pddl_problem.specs.Inits.{GroundValue, InitValue, holds, fails, value, MetricValue, direction_word}
use Rattle.pddl_problem.specs.Problems.{ProblemValue}
use Rattle.pddl_file_layout.specs.FormulaTrees.{name_tree, variable_tree, number_tree, equal_sign, dash, type_tree, typed_trees, formula_tree}
use Rattle.pddl_file_layout.specs.DomainLayout.{keyword_tree, flag_tree, section_trees, type_trees, signature_tree, function_trees, section_line, action_text, domain_text}
use Rattle.pddl_file_layout.specs.ProblemLayout.{ground_tree, init_tree, metric_trees, problem_text}
use Rattle.pddl_file_layout.specs.Inner.Texts.{spaced_by, word_text, type_text, formula_text, section_text, flag_text, declared_type_text, signature_text, function_text, object_text, action_lines, domain_lines, ground_text, init_text, metric_text, problem_lines}
use Rattle.pddl_file_layout.proofs.TreeTexts.{node_text, spaced_as, list_text, one_text, two_text, name_is, variable_is, type_is, typed_is, variables_is, formula_is, effect_is, number_is}

-- ---- sections

-- the line of a section whose trees, each behind a space, have this text
section_of : (keyword : List ℕ) (t : Tree) (ts : List Tree) (text : List ℕ) → spaced_by tree_text (t ∷ ts) ≡ text
    → flat_map section_line (section_trees keyword (t ∷ ts)) ≡ codes "  (" ++ (keyword ++ (text ++ codes ")\n"))
section_of keyword t ts text is =
    append-nil (section_line (list (keyword_tree keyword ∷ t ∷ ts)))
    ∙ ap (λ (x : List ℕ). codes "  " ++ x)
    (ap (λ (x : List ℕ). x ++ codes "\n")
    (node_text (keyword_tree keyword) (t ∷ ts) ∙ ap₂ (λ (a b : List ℕ). codes "(" ++ (a ++ (b ++ codes ")"))) (append-nil keyword) is)
    ∙ ap (λ (x : List ℕ). codes "(" ++ x)
    (append_assoc keyword (text ++ codes ")") (codes "\n") ∙ ap (λ (x : List ℕ). keyword ++ x) (append_assoc text (codes ")") (codes "\n"))))

module _ {X : Type 0} (tree : X → Tree) (text : X → List ℕ) (is : (x : X) → tree_text (tree x) ≡ text x) where
  listed : (name : List ℕ) (xs : List X) → flat_map section_line (section_trees (codes ":" ++ name) (map tree xs)) ≡ section_text (codes "  (:" ++ name) text xs
  listed name [] = refl
  listed name (x ∷ xs) = section_of (codes ":" ++ name) (tree x) (map tree xs) (spaced_by text (x ∷ xs)) (spaced_as tree text is (x ∷ xs))

flag_is : (n : List ℕ) → tree_text (flag_tree n) ≡ flag_text n
flag_is n = append-nil (codes ":" ++ n)

-- an item of a list in which each is followed by its dash and another word or list
dashed : (item of rest : List ℕ) → item ++ (codes " - " ++ (of ++ rest)) ≡ (item ++ (codes " - " ++ of)) ++ rest
dashed item of rest = sym (append_assoc item (codes " - " ++ of) rest)

types_are : (ts : List TypeValue) → spaced_by tree_text (type_trees ts) ≡ spaced_by declared_type_text ts
types_are [] = refl
types_are (t ∷ ts) =
    ap (λ (x : List ℕ). codes " " ++ x)
    (ap₂ (λ (a b : List ℕ). a ++ (codes " - " ++ b)) (name_is t.item) (ap₂ (λ (a b : List ℕ). a ++ b) (name_is t.of) (types_are ts))
    ∙ dashed t.item t.of (spaced_by declared_type_text ts))

types_listed : (ts : List TypeValue) → flat_map section_line (section_trees (codes ":types") (type_trees ts)) ≡ section_text (codes "  (:types") declared_type_text ts
types_listed [] = refl
types_listed (t ∷ ts) = section_of (codes ":types") (name_tree t.item) (dash ∷ name_tree t.of ∷ type_trees ts) (spaced_by declared_type_text (t ∷ ts)) (types_are (t ∷ ts))

objects_listed : (name : List ℕ) (xs : List TypedValue) → flat_map section_line (section_trees (codes ":" ++ name) (typed_trees name_tree xs)) ≡ section_text (codes "  (:" ++ name) object_text xs
objects_listed name [] = refl
objects_listed name (x ∷ xs) =
    section_of (codes ":" ++ name) (name_tree x.item) (dash ∷ type_tree x.of ∷ typed_trees name_tree xs) (spaced_by object_text (x ∷ xs)) (typed_is name_tree [] name_is (x ∷ xs))

signature_is : (s : Signature) → tree_text (signature_tree s) ≡ signature_text s
signature_is s =
    node_text (name_tree s.name) (typed_trees variable_tree s.parameters)
    ∙ ap₂ (λ (a b : List ℕ). codes "(" ++ (a ++ (b ++ codes ")"))) (name_is s.name) (typed_is variable_tree (codes "?") variable_is s.parameters)

functions_are : (fs : List FunctionValue) → spaced_by tree_text (function_trees fs) ≡ spaced_by function_text fs
functions_are [] = refl
functions_are (f ∷ fs) =
    ap (λ (x : List ℕ). codes " " ++ x)
    (ap₂ (λ (a b : List ℕ). a ++ (codes " - " ++ b)) (signature_is f.item) (ap₂ (λ (a b : List ℕ). a ++ b) (type_is f.of) (functions_are fs))
    ∙ dashed (signature_text f.item) (type_text f.of) (spaced_by function_text fs))

functions_listed : (fs : List FunctionValue) → flat_map section_line (section_trees (codes ":functions") (function_trees fs)) ≡ section_text (codes "  (:functions") function_text fs
functions_listed [] = refl
functions_listed (f ∷ fs) = section_of (codes ":functions") (signature_tree f.item) (dash ∷ type_tree f.of ∷ function_trees fs) (spaced_by function_text (f ∷ fs)) (functions_are (f ∷ fs))

-- ---- domains

-- the lines of sections before others
lines_then : (ts us : List Tree) (text more rest : List ℕ) → flat_map section_line ts ≡ text → flat_map section_line us ++ rest ≡ more → flat_map section_line (ts ++ us) ++ rest ≡ text ++ more
lines_then ts us text more rest is others =
    ap (λ (x : List ℕ). x ++ rest) (flat_map-append section_line ts us ∙ ap (λ (x : List ℕ). x ++ flat_map section_line us) is)
    ∙ (append_assoc text (flat_map section_line us) rest ∙ ap (λ (x : List ℕ). text ++ x) others)

action_is : (a : ActionValue) → action_text a ≡ action_lines a
action_is a =
    ap (λ (x : List ℕ). codes "  (:action " ++ (a.name ++ (codes "\n    :parameters " ++ x)))
    (ap₂ (λ (x y : List ℕ). x ++ (codes "\n    :precondition " ++ y)) (variables_is a.parameters)
    (ap₂ (λ (x y : List ℕ). x ++ (codes "\n    :effect " ++ (y ++ codes ")\n"))) (formula_is a.precondition) (effect_is a.effect)))

actions_are : (actions : List ActionValue) → flat_map action_text actions ≡ flat_map action_lines actions
actions_are [] = refl
actions_are (a ∷ actions) = ap₂ (λ (x y : List ℕ). x ++ y) (action_is a) (actions_are actions)

pub domain_is : (d : DomainValue) → domain_text d ≡ domain_lines d
domain_is d =
    let requirements = section_trees (codes ":requirements") (map flag_tree d.requirements) in
    let types = section_trees (codes ":types") (type_trees d.types) in
    let constants = section_trees (codes ":constants") (typed_trees name_tree d.constants) in
    let predicates = section_trees (codes ":predicates") (map signature_tree d.predicates) in
    let functions = section_trees (codes ":functions") (function_trees d.functions) in
    let end = flat_map action_text d.actions ++ codes ")\n" in
    let last = ap₂ (λ (x y : List ℕ). x ++ (y ++ codes ")\n")) (functions_listed d.functions) (actions_are d.actions) in
    let from_predicates = lines_then predicates functions _ _ end (listed signature_tree signature_text signature_is (codes "predicates") d.predicates) last in
    let from_constants = lines_then constants (predicates ++ functions) _ _ end (objects_listed (codes "constants") d.constants) from_predicates in
    let from_types = lines_then types (constants ++ (predicates ++ functions)) _ _ end (types_listed d.types) from_constants in
    let whole = lines_then requirements (types ++ (constants ++ (predicates ++ functions))) _ _ end (listed flag_tree flag_text flag_is (codes "requirements") d.requirements) from_types in
    ap (λ (x : List ℕ). codes "(define (domain " ++ (d.name ++ (codes ")\n" ++ x))) whole

-- ---- problems

ground_is : (f : GroundValue) → tree_text (ground_tree f) ≡ ground_text f
ground_is f = list_text name_tree word_text name_is (name_tree f.name) f.name (name_is f.name) f.objects

init_is : (i : InitValue) → tree_text (init_tree i) ≡ init_text i
init_is (holds f) = ground_is f
init_is (fails f) = one_text (name_tree (codes "not")) (ground_tree f) ∙ ap (λ (x : List ℕ). codes "(not " ++ (x ++ codes ")")) (ground_is f)
init_is (value f n) =
    two_text equal_sign (ground_tree f) (number_tree n) ∙ ap₂ (λ (a b : List ℕ). codes "(= " ++ (a ++ (codes " " ++ (b ++ codes ")")))) (ground_is f) (number_is n)

-- a section with its own trees, also where there are none
section_line_is : (name : List ℕ) (ts : List Tree) (text : List ℕ) → spaced_by tree_text ts ≡ text
    → section_line (list (keyword_tree (codes ":" ++ name) ∷ ts)) ≡ codes "  (:" ++ (name ++ (text ++ codes ")\n"))
section_line_is name [] text is =
    ap (λ (x : List ℕ). codes "  " ++ x)
    (ap (λ (x : List ℕ). x ++ codes "\n")
    (node_text (keyword_tree (codes ":" ++ name)) [] ∙ ap₂ (λ (a b : List ℕ). codes "(:" ++ (a ++ (b ++ codes ")"))) (append-nil name) is)
    ∙ ap (λ (x : List ℕ). codes "(:" ++ x)
    (append_assoc name (text ++ codes ")") (codes "\n") ∙ ap (λ (x : List ℕ). name ++ x) (append_assoc text (codes ")") (codes "\n"))))
section_line_is name (t ∷ ts) text is = sym (append-nil (section_line (list (keyword_tree (codes ":" ++ name) ∷ t ∷ ts)))) ∙ section_of (codes ":" ++ name) t ts text is

metric_is : (m : Option MetricValue) → flat_map section_line (metric_trees m) ≡ metric_text m
metric_is None = refl
metric_is (Some m) =
    let direction = direction_word m.direction in
    append-nil (section_line (list (keyword_tree (codes ":metric") ∷ name_tree direction ∷ ground_tree m.function ∷ [])))
    ∙ ap (λ (x : List ℕ). codes "  " ++ (x ++ codes "\n"))
    (two_text (keyword_tree (codes ":metric")) (name_tree direction) (ground_tree m.function) ∙ ap₂ (λ (a b : List ℕ). codes "(:metric " ++ (a ++ (codes " " ++ (b ++ codes ")")))) (name_is direction) (ground_is m.function))
    ∙ ap (λ (x : List ℕ). codes "  (:metric " ++ x)
    (append_assoc direction (codes " " ++ (ground_text m.function ++ codes ")")) (codes "\n")
    ∙ ap (λ (x : List ℕ). direction ++ (codes " " ++ x)) (append_assoc (ground_text m.function) (codes ")") (codes "\n")))

-- the line of one section before others
line_then : (t : Tree) (us : List Tree) (text more rest : List ℕ) → section_line t ≡ text → flat_map section_line us ++ rest ≡ more → flat_map section_line (t ∷ us) ++ rest ≡ text ++ more
line_then t us text more rest is others = append_assoc (section_line t) (flat_map section_line us) rest ∙ ap₂ (λ (a b : List ℕ). a ++ b) is others

pub problem_is : (p : ProblemValue) → problem_text p ≡ problem_lines p
problem_is p =
    let domain = list (keyword_tree (codes ":domain") ∷ name_tree p.domain ∷ []) in
    let requirements = section_trees (codes ":requirements") (map flag_tree p.requirements) in
    let objects = section_trees (codes ":objects") (typed_trees name_tree p.objects) in
    let init = list (keyword_tree (codes ":init") ∷ map init_tree p.init) in
    let goal = list (keyword_tree (codes ":goal") ∷ formula_tree p.goal ∷ []) in
    let metric = metric_trees p.metric in
    let end = codes ")\n" in
    let inits = spaced_by init_text p.init in
    let last = ap (λ (x : List ℕ). x ++ end) (metric_is p.metric) in
    let from_goal = line_then goal metric _ _ end
    (section_line_is (codes "goal") (formula_tree p.goal ∷ []) (codes " " ++ formula_text p.goal) (ap (λ (x : List ℕ). codes " " ++ x) (append-nil (tree_text (formula_tree p.goal)) ∙ formula_is p.goal))) last in
    let from_init = line_then init (goal ∷ metric) _ _ end (section_line_is (codes "init") (map init_tree p.init) inits (spaced_as init_tree init_text init_is p.init)) from_goal in
    let from_objects = lines_then objects (init ∷ goal ∷ metric) _ _ end (objects_listed (codes "objects") p.objects) from_init in
    let from_requirements = lines_then requirements (objects ++ (init ∷ goal ∷ metric)) _ _ end (listed flag_tree flag_text flag_is (codes "requirements") p.requirements) from_objects in
    let whole = line_then domain (requirements ++ (objects ++ (init ∷ goal ∷ metric))) _ _ end
    (section_line_is (codes "domain") (name_tree p.domain ∷ []) (codes " " ++ p.domain) (ap (λ (x : List ℕ). codes " " ++ x) (append-nil (tree_text (name_tree p.domain)) ∙ name_is p.domain))) from_requirements in
    let flags = section_text (codes "  (:requirements") flag_text p.requirements in
    let named = section_text (codes "  (:objects") object_text p.objects in
    let behind_goal = metric_text p.metric ++ end in
    let behind_init = codes "  (:goal " ++ ((formula_text p.goal ++ codes ")\n") ++ behind_goal) in
    let behind_domain = flags ++ (named ++ (codes "  (:init" ++ ((inits ++ codes ")\n") ++ behind_init))) in
    let regrouped =
    append_assoc p.domain (codes ")\n") behind_domain
    ∙ ap (λ (x : List ℕ). p.domain ++ (codes ")\n" ++ (flags ++ (named ++ (codes "  (:init" ++ x)))))
    (append_assoc inits (codes ")\n") behind_init ∙ ap (λ (x : List ℕ). inits ++ (codes ")\n  (:goal " ++ x)) (append_assoc (formula_text p.goal) (codes ")\n") behind_goal)) in
    ap (λ (x : List ℕ). codes "(define (problem " ++ (p.name ++ (codes ")\n" ++ x))) (whole ∙ ap (λ (x : List ℕ). codes "  (:domain " ++ x) regrouped)
