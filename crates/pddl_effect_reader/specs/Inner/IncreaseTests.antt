-- Whether trees spell increases, told without their values, for the readers above. What it means stands in Effects.
use Rattle.std.specs.Prelude.{ℕ, List, [], ◌∷◌, Bool, false, ◌&&◌, ◌==◌, not, is_some, codes}
use Rattle.std.specs.Char.{to_ascii_lowercase}
use Rattle.std.specs.List.{list_all}
use Rattle.std.specs.Str.{bytes_eq}
use Rattle.pddl_token.specs.declared.token.TokenKind.{TokenKind}
use Rattle.pddl_token.specs.declared.token.TokenKind.TheVariants.{Name, Variable, Number}
use Rattle.pddl_token.specs.Number.{value_of}
use Rattle.pddl_token.specs.Trees.{Tree, leaf, node, list_of}
use Rattle.pddl_token.specs.Names.{folded, is_first_byte, is_later_byte}
use Rattle.pddl_items.specs.Inner.TreeReading.{is_word_at}
use Rattle.pddl_effect_reader.specs.Inner.EffectReading.{is_total_cost_at}

-- a name, letter case aside
abbrev pub is_name_text : List ℕ → Bool
is_name_text [] = false
is_name_text (b ∷ text) = is_first_byte (to_ascii_lowercase b) && list_all (λ c. is_later_byte (to_ascii_lowercase c)) text

-- `?` and a name
abbrev pub is_variable_text : List ℕ → Bool
is_variable_text [] = false
is_variable_text (b ∷ text) = b == 63 && is_name_text text

-- a name other than `total-cost`
abbrev pub is_static_text : List ℕ → Bool
is_static_text text = is_name_text text && not (bytes_eq (folded text) (codes "total-cost"))

abbrev pub is_term_by : TokenKind → List ℕ → Bool
is_term_by Name text = is_name_text text
is_term_by Variable text = is_variable_text text
is_term_by _ text = false

-- whether a tree is a term
abbrev pub is_term_at : Tree → Bool
is_term_at (leaf w) = is_term_by w.kind w.text
is_term_at (node ts) = false

abbrev pub is_static_by : TokenKind → List ℕ → Bool
is_static_by Name text = is_static_text text
is_static_by _ text = false

-- whether a tree is the name of a function other than `total-cost`
abbrev pub is_static_at : Tree → Bool
is_static_at (leaf w) = is_static_by w.kind w.text
is_static_at (node ts) = false

-- such a function and terms
abbrev pub is_call_list : List Tree → Bool
is_call_list [] = false
is_call_list (head ∷ ts) = is_static_at head && list_all is_term_at ts

abbrev pub is_amount_by : TokenKind → List ℕ → Bool
is_amount_by Number text = is_some (value_of text)
is_amount_by Name text = is_static_text text
is_amount_by _ text = false

-- whether a tree is what an increase adds
abbrev pub is_amount_at : Tree → Bool
is_amount_at (leaf w) = is_amount_by w.kind w.text
is_amount_at (node ts) = is_call_list (list_of ts)

-- the total cost and an amount
abbrev pub is_cost_and_amount : List Tree → Bool
is_cost_and_amount [] = false
is_cost_and_amount (cost ∷ []) = false
is_cost_and_amount (cost ∷ x ∷ []) = is_total_cost_at cost && is_amount_at x
is_cost_and_amount (cost ∷ x ∷ y ∷ ts) = false

-- whether a list of these trees is an increase
abbrev pub is_increase_at : List Tree → Bool
is_increase_at [] = false
is_increase_at (head ∷ ts) = is_word_at (codes "increase") head && is_cost_and_amount ts
