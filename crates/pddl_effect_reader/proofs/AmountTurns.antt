-- Function terms of lists, by their parts.
use Rattle.std.proofs.Common.{◌≡◌, ◌-◌, ◌<◌, ℕ, List, [], ◌∷◌, map, length, get_or, take, drop, refl, sym, ap₂, ◌∙◌, arith}
use Rattle.std.specs.Prelude.{Option, Some, None, option_map, option_and_then}
use Rattle.std.specs.Option.{option_zip}
use Rattle.std.proofs.lemmas.List.{take_all}
use Rattle.pddl_items.specs.declared.item.Item.{Item}
use Rattle.pddl_items.specs.ItemTrees.{item_tree, item_trees}
use Rattle.pddl_items.specs.Inner.TreeReading.{name_at, all_of}
use Rattle.pddl_formula.specs.Terms.{TermValue}
use Rattle.pddl_formula_reader.specs.Inner.Reading.{term_at}
use Rattle.pddl_effect.specs.StaticNames.{static_function_of}
use Rattle.pddl_effect.specs.Effects.{FunctionTermValue}
use Rattle.pddl_effect_reader.specs.Inner.EffectReading.{call_of_list, static_term}

-- a function and its arguments
abbrev pub term_of_parts : List ℕ × List TermValue → FunctionTermValue
term_of_parts p = record { function = p.0; terms = p.1 }

none_behind : (f : Option (List ℕ)) → None ≡ option_map term_of_parts (option_zip f None)
none_behind None = refl
none_behind (Some f) = refl

some_behind : (f : Option (List ℕ)) (xs : List TermValue)
    → option_map (λ g. record { function = g; terms = xs }) f ≡ option_map term_of_parts (option_zip f (Some xs))
some_behind None xs = refl
some_behind (Some f) xs = refl

parts_of : (name : Option (List ℕ)) (terms : Option (List TermValue))
    → option_and_then static_term (option_and_then (λ f. option_map (λ xs. (f, xs)) terms) name)
    ≡ option_map term_of_parts (option_zip (option_and_then static_function_of name) terms)
parts_of None terms = refl
parts_of (Some f) None = none_behind (static_function_of f)
parts_of (Some f) (Some xs) = some_behind (static_function_of f) xs

pub call_is : {A : Type 0} (xs : List (Item A)) (h : Item A) → 0 < length xs → h ≡ get_or xs 0 h
    → option_and_then static_term (call_of_list term_at (item_trees xs))
    ≡ option_map term_of_parts (option_zip (option_and_then static_function_of (name_at (item_tree h))) (all_of (map term_at (item_trees (take (length xs - 1) (drop 1 xs))))))
call_is [] h some first = absurd (omega (arith, some))
call_is (x ∷ xs) h some first =
    parts_of (name_at (item_tree x)) (all_of (map term_at (item_trees xs)))
    ∙ ap₂ (λ i ys. option_map term_of_parts (option_zip (option_and_then static_function_of (name_at (item_tree i))) (all_of (map term_at (item_trees ys))))) (sym first)
    (sym (take_all (length (x ∷ xs) - 1) xs (omega arith)))
