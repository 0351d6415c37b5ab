-- Lists that declare a predicate or a function, in the words of the code.
use Rattle.std.proofs.Common.{◌≡◌, ℕ, ◌+◌, ◌<◌, ◌≤◌, true, false, List, [], ◌∷◌, map, length, get_or, drop, sym, ap, ◌∙◌, arith}
use Rattle.std.specs.Prelude.{Option, Some, None, Result, Ok, IfOk, option_map}
use Rattle.std.proofs.lemmas.List.{map_push}
use Rattle.pddl_build.specs.Results.{PushesFound}
use Rattle.pddl_build.proofs.Parts.{pushed_some, pushed_none}
use Rattle.pddl_items.specs.declared.item.Item.{Item}
use Rattle.pddl_token.specs.Trees.{Tree}
use Rattle.pddl_token.specs.TreeWords.{list}
use Rattle.pddl_items.specs.ItemTrees.{item_tree, item_trees}
use Rattle.pddl_items.specs.Inner.TreeReading.{is_dash}
use Rattle.pddl_items.proofs.TreeLists.{list_of_trees_of}
use Rattle.pddl_formula.specs.TypedLists.{TypedValue}
use Rattle.pddl_formula_reader.specs.Inner.Reading.{type_at, typed_variables, typed_from}
use Rattle.pddl_formula_reader.proofs.TypedTurns.{item_fails, item_done}
use Rattle.pddl_domain.specs.Declarations.{Signature as SignatureValue, FunctionValue, number}
use Rattle.pddl_declaration_reader.specs.declared.declaration_reader.Signature.{Signature}
use Rattle.pddl_declaration_reader.specs.Inner.Signatures.{signature_view}
use Rattle.pddl_declaration_reader.specs.Inner.DeclarationReading.{signature_of, predicate_of_list, predicate_signature_at, function_of_list, function_signature_at}

pub predicate_list : (ts : List Tree) → predicate_signature_at (list ts) ≡ predicate_of_list ts
predicate_list ts = ap predicate_of_list (list_of_trees_of ts)

pub function_list : (ts : List Tree) → function_signature_at (list ts) ≡ function_of_list ts
function_list ts = ap function_of_list (list_of_trees_of ts)

-- a list that declares something: a head, and parameters behind it
module _ {A : Type 0} (read : Tree → Option (List ℕ)) (of_list : List Tree → Option SignatureValue)
    (of_head : (head : Tree) (ts : List Tree) → of_list (head ∷ ts) ≡ signature_of (read head) ts) where
  headed : (xs : List (Item A)) (head : Item A) → 1 ≤ length xs → head ≡ get_or xs 0 head → signature_of (read (item_tree head)) (item_trees (drop 1 xs)) ≡ of_list (item_trees xs)
  headed [] head some is = absurd (omega (arith, some))
  headed (x ∷ xs) head some is = ap (λ h. signature_of (read (item_tree h)) (item_trees xs)) is ∙ sym (of_head (item_tree x) (item_trees xs))

  module _ (xs : List (Item A)) (head : Item A) (some : 1 ≤ length xs) (is : head ≡ get_or xs 0 head) where
    pub head_fails : None ≡ read (item_tree head) → None ≡ of_list (item_trees xs)
    head_fails none = ap (λ n. signature_of n (item_trees (drop 1 xs))) none ∙ headed xs head some is

    module _ (name : List ℕ) (named : Some name ≡ read (item_tree head)) (rest : List (Item A)) (behind : rest ≡ drop 1 xs) where
      -- what the parameters say
      by_parameters : (parameters : Option (List TypedValue)) → parameters ≡ typed_variables (item_trees rest)
          → option_map (λ vs. record { name = name; parameters = vs }) parameters ≡ of_list (item_trees xs)
      by_parameters parameters reads =
          ap (option_map (λ vs. record { name = name; parameters = vs })) (reads ∙ ap (λ ys. typed_variables (item_trees ys)) behind)
          ∙ ap (λ n. signature_of n (item_trees (drop 1 xs))) named ∙ headed xs head some is

      pub parameters_fail : None ≡ typed_variables (item_trees rest) → None ≡ of_list (item_trees xs)
      parameters_fail reads = by_parameters None reads

      pub declares : (parameters : List TypedValue) → Some parameters ≡ typed_variables (item_trees rest) → Some (record { name = name; parameters = parameters }) ≡ of_list (item_trees xs)
      declares parameters reads = by_parameters (Some parameters) reads

-- a function of a typed list, before the type of its result is known
module _ {A B E : Type 0} (xs : List (Item A)) (i : ℕ) (item : Item A) (below : i < length xs) (is : item ≡ get_or xs i item)
    (found : List FunctionValue) (group : List (Signature B)) (whole : Option (List FunctionValue)) (value : Result (Option (Signature B)) E) (new : List (Signature B)) where
  pub function_stops : typed_from function_signature_at type_at number found (map signature_view group) false (item_trees (drop i xs)) ≡ whole
      → is_dash (item_tree (get_or xs i item)) ≡ false → IfOk value (λ x. option_map signature_view x ≡ function_signature_at (item_tree item)) → PushesFound group value new (Ok false) → None ≡ whole
  function_stops so_far dash reads pushes =
      let (none, kept) = pushed_none group value new pushes in
      item_fails function_signature_at type_at number xs i item below found (map signature_view group) whole so_far dash
      (ap (λ j. function_signature_at (item_tree j)) (sym is) ∙ sym (rw none at reads))

  pub function_adds : typed_from function_signature_at type_at number found (map signature_view group) false (item_trees (drop i xs)) ≡ whole
      → is_dash (item_tree (get_or xs i item)) ≡ false → IfOk value (λ x. option_map signature_view x ≡ function_signature_at (item_tree item)) → PushesFound group value new (Ok true)
      → typed_from function_signature_at type_at number found (map signature_view new) false (item_trees (drop (i + 1) xs)) ≡ whole
  function_adds so_far dash reads pushes =
      let (x, some, put) = pushed_some group value new pushes in
      rw (put, map_push signature_view group x)
      (item_done function_signature_at type_at number xs i item below found (map signature_view group) whole (signature_view x) so_far dash
      (ap (λ j. function_signature_at (item_tree j)) (sym is) ∙ sym (rw some at reads)))
