-- What formulas of lists are.
use Rattle.std.proofs.Common.{◌≡◌, ◌-◌, ◌≤◌, ◌<◌, List, [], ◌∷◌, map, length, get_or, take, drop, refl, sym, ap, ap₂, ◌∙◌, arith}
use Rattle.std.specs.Prelude.{Option, Some, None, option_map, option_and_then}
use Rattle.std.specs.Option.{option_zip}
use Rattle.std.proofs.lemmas.List.{take_all}
use Rattle.pddl_items.specs.declared.item.Item.{Item}
use Rattle.pddl_token.specs.Spelling.{Word}
use Rattle.pddl_token.specs.Trees.{Tree, leaf, trees_of}
use Rattle.pddl_token.specs.TreeWords.{list}
use Rattle.pddl_items.specs.ItemTrees.{item_tree, item_trees}
use Rattle.pddl_items.proofs.TreeLists.{list_of_trees_of}
use Rattle.pddl_formula.specs.Formulas.{FormulaValue, atom}
use Rattle.pddl_formula.specs.TypedLists.{TypedValue}
use Rattle.pddl_formula_reader.specs.Inner.Reading.{term_at, atom_of_list, equality_of, head_at, formula_by, behind, only, two, quantified, variables_at, formula_at, formulas_at, formula_of_list, condition_at}
use Rattle.pddl_formula_reader.specs.declared.head.Head.{Head}
use Rattle.pddl_formula_reader.specs.declared.head.Head.TheVariants as heads

formulas_at_trees_of : (ts : List Tree) → formulas_at (trees_of ts) ≡ map formula_at ts
unfolding formulas_at
formulas_at_trees_of [] = refl
formulas_at_trees_of (t ∷ ts) = ap (λ (os : List (Option FormulaValue)). formula_at t ∷ os) (formulas_at_trees_of ts)

-- the formula of a list
pub formula_at_list : (ts : List Tree) → formula_at (list ts) ≡ formula_of_list ts (map formula_at ts)
unfolding formula_at
formula_at_list ts = ap₂ formula_of_list (list_of_trees_of ts) (formulas_at_trees_of ts)

-- a word is no formula
pub formula_at_leaf : (w : Word) → formula_at (leaf w) ≡ None
unfolding formula_at
formula_at_leaf w = refl

-- a condition that is not `()` is a formula
pub condition_at_list : (ts : List Tree) → 0 < length ts → condition_at (list ts) ≡ formula_at (list ts)
condition_at_list [] some = absurd (omega (arith, some))
condition_at_list (t ∷ ts) some = refl

pub condition_at_leaf : (w : Word) → condition_at (leaf w) ≡ None
condition_at_leaf w = formula_at_leaf w

-- ---- lists by their heads

module _ {A : Type 0} where
  pub by_head : (xs : List (Item A)) (h : Item A) (k : Head) → 0 < length xs → h ≡ get_or xs 0 h → k ≡ head_at (item_tree h)
      → formula_of_list (item_trees xs) (map formula_at (item_trees xs)) ≡ formula_by k (item_tree h) (behind (item_trees xs)) (behind (map formula_at (item_trees xs)))
  by_head [] h k some first is = absurd (omega (arith, some))
  by_head (x ∷ xs) h k some first is = rw (is, first) refl

  pub by_name : (xs : List (Item A)) (h : Item A) → 0 < length xs → h ≡ get_or xs 0 h → heads.Name ≡ head_at (item_tree h)
      → formula_of_list (item_trees xs) (map formula_at (item_trees xs)) ≡ option_map atom (atom_of_list (item_trees xs))
  by_name [] h some first is = absurd (omega (arith, some))
  by_name (x ∷ xs) h some first is = by_head (x ∷ xs) h heads.Name some first is ∙ ap (λ (i : Item A). option_map atom (atom_of_list (item_tree i ∷ item_trees xs))) first

  pub by_equal : (xs : List (Item A)) (h : Item A) → 0 < length xs → h ≡ get_or xs 0 h → heads.Equal ≡ head_at (item_tree h)
      → formula_of_list (item_trees xs) (map formula_at (item_trees xs)) ≡ equality_of (item_trees (take (length xs - 1) (drop 1 xs)))
  by_equal [] h some first is = absurd (omega (arith, some))
  by_equal (x ∷ xs) h some first is = by_head (x ∷ xs) h heads.Equal some first is ∙ ap (λ (ys : List (Item A)). equality_of (item_trees ys)) (sym (take_all (length (x ∷ xs) - 1) xs (omega arith)))

-- ---- lists of two and of three

pub only_is : {A : Type 0} (xs : List (Item A)) (x : Item A) → 2 ≤ length xs → length xs < 3 → x ≡ get_or xs 1 x
    → only (behind (map formula_at (item_trees xs))) ≡ formula_at (item_tree x)
only_is [] x low high is = absurd (omega (arith, low))
only_is (h ∷ []) x low high is = absurd (omega (arith, low))
only_is {A} (h ∷ y ∷ []) x low high is = ap (λ (i : Item A). formula_at (item_tree i)) (sym is)
only_is (h ∷ y ∷ z ∷ xs) x low high is = absurd (omega (arith, high))

pub two_zip : {X : Type 0} (o p : Option X) → two (o ∷ p ∷ []) ≡ option_zip o p
two_zip None p = refl
two_zip (Some x) None = refl
two_zip (Some x) (Some y) = refl

pub two_terms : {A : Type 0} (xs : List (Item A)) (x y : Item A) → 2 ≤ length xs → length xs < 3 → x ≡ get_or xs 0 x → y ≡ get_or xs 1 y
    → two (map term_at (item_trees xs)) ≡ option_zip (term_at (item_tree x)) (term_at (item_tree y))
two_terms [] x y low high first second = absurd (omega (arith, low))
two_terms (a ∷ []) x y low high first second = absurd (omega (arith, low))
two_terms {A} (a ∷ b ∷ []) x y low high first second = rw (first, second) (two_zip (term_at (item_tree a)) (term_at (item_tree b)))
two_terms (a ∷ b ∷ c ∷ xs) x y low high first second = absurd (omega (arith, high))

-- two values, and what is made of them
pub made_of_two : {X Y Z : Type 0} (make : X → Y → Z) (o : Option X) (p : Option Y)
    → option_and_then (λ x. option_map (make x) p) o ≡ option_map (λ q. make q.0 q.1) (option_zip o p)
made_of_two make None p = refl
made_of_two make (Some x) None = refl
made_of_two make (Some x) (Some y) = refl

three : {A : Type 0} (xs : List (Item A)) (x y : Item A) → 3 ≤ length xs → length xs < 4 → x ≡ get_or xs 1 x → y ≡ get_or xs 2 y
    → (h : Item A) × (xs ≡ h ∷ x ∷ y ∷ [])
three [] x y low high first second = absurd (omega (arith, low))
three (a ∷ []) x y low high first second = absurd (omega (arith, low))
three (a ∷ b ∷ []) x y low high first second = absurd (omega (arith, low))
three {A} (a ∷ b ∷ c ∷ []) x y low high first second = (a, sym (ap₂ (λ (i j : Item A). a ∷ i ∷ j ∷ []) first second))
three (a ∷ b ∷ c ∷ d ∷ xs) x y low high first second = absurd (omega (arith, high))

module _ {A : Type 0} (xs : List (Item A)) (x y : Item A) (low : 3 ≤ length xs) (high : length xs < 4) (first : x ≡ get_or xs 1 x) (second : y ≡ get_or xs 2 y) where
  items_are : (h : Item A) × (xs ≡ h ∷ x ∷ y ∷ [])
  items_are = three xs x y low high first second

  pub two_is : two (behind (map formula_at (item_trees xs))) ≡ option_zip (formula_at (item_tree x)) (formula_at (item_tree y))
  two_is = rw items_are.1 (two_zip (formula_at (item_tree x)) (formula_at (item_tree y)))

  pub quantified_is : (make : List TypedValue → FormulaValue → FormulaValue) → quantified make (behind (item_trees xs)) (behind (map formula_at (item_trees xs)))
      ≡ option_map (λ b. make b.0 b.1) (option_zip (variables_at (item_tree x)) (formula_at (item_tree y)))
  quantified_is make = rw items_are.1 (made_of_two make (variables_at (item_tree x)) (formula_at (item_tree y)))
