-- Tests of increases, as the code goes over items.
use Rattle.std.proofs.Common.{◌≡◌, ℕ, ◌+◌, ◌-◌, ◌≤◌, ◌<◌, List, [], ◌∷◌, length, get_or, take, drop, refl, sym, ap, ◌∙◌, arith, codes}
use Rattle.std.specs.Prelude.{Bool, true, false, ◌&&◌}
use Rattle.std.specs.List.{list_all}
use Rattle.std.proofs.lemmas.List.{take_all}
use Rattle.pddl_items.specs.declared.item.Item.{Item}
use Rattle.pddl_token.specs.Trees.{Tree}
use Rattle.pddl_items.specs.ItemTrees.{item_tree, item_trees}
use Rattle.pddl_items.specs.Inner.TreeReading.{is_word_at}
use Rattle.pddl_formula_reader.proofs.Turns.{trees_from, trees_end}
use Rattle.pddl_effect_reader.specs.Inner.EffectReading.{is_cost_list, is_total_cost_at}
use Rattle.pddl_effect_reader.specs.Inner.IncreaseTests.{is_term_at, is_static_at, is_call_list, is_amount_at, is_cost_and_amount, is_increase_at}

module _ {A : Type 0} where
  -- the total cost and an amount
  pub two_tested : (xs : List (Item A)) (x y : Item A) (cost amount : Bool) → 2 ≤ length xs → length xs < 3 → x ≡ get_or xs 0 x → y ≡ get_or xs 1 y
      → cost ≡ is_total_cost_at (item_tree x) → amount ≡ is_amount_at (item_tree y) → (cost && amount) ≡ is_cost_and_amount (item_trees xs)
  two_tested [] x y cost amount low high first second one two = absurd (omega (arith, low))
  two_tested (u ∷ []) x y cost amount low high first second one two = absurd (omega (arith, low))
  two_tested (u ∷ v ∷ []) x y cost amount low high first second one two = rw (one, two, first, second) refl
  two_tested (u ∷ v ∷ w ∷ xs) x y cost amount low high first second one two = absurd (omega (arith, high))

  pub too_few : (xs : List (Item A)) → length xs < 2 → false ≡ is_cost_and_amount (item_trees xs)
  too_few [] few = refl
  too_few (x ∷ []) few = refl
  too_few (x ∷ y ∷ xs) few = absurd (omega (arith, few))

  pub too_many : (xs : List (Item A)) → 3 ≤ length xs → false ≡ is_cost_and_amount (item_trees xs)
  too_many [] many = absurd (omega (arith, many))
  too_many (x ∷ []) many = absurd (omega (arith, many))
  too_many (x ∷ y ∷ []) many = absurd (omega (arith, many))
  too_many (x ∷ y ∷ z ∷ xs) many = refl

  -- the word, and what stands behind it, as a call takes it
  pub head_tested : (xs : List (Item A)) (h : Item A) (word behind : Bool) → 0 < length xs → h ≡ get_or xs 0 h → word ≡ is_word_at (codes "increase") (item_tree h)
      → behind ≡ is_cost_and_amount (item_trees (take (length xs - 1) (drop 1 xs))) → (word && behind) ≡ is_increase_at (item_trees xs)
  head_tested [] h word behind some first one rest = absurd (omega (arith, some))
  head_tested (x ∷ xs) h word behind some first one rest = rw (one, rest, take_all (length (x ∷ xs) - 1) xs (omega arith), first) refl

  pub none_tested : (xs : List (Item A)) → length xs < 1 → false ≡ is_increase_at (item_trees xs)
  none_tested [] none = refl
  none_tested (x ∷ xs) none = absurd (omega (arith, none))

  -- the word alone
  pub cost_tested : (xs : List (Item A)) (x : Item A) (word : Bool) → 1 ≤ length xs → length xs < 2 → x ≡ get_or xs 0 x
      → word ≡ is_word_at (codes "total-cost") (item_tree x) → word ≡ is_cost_list (item_trees xs)
  cost_tested [] x word low high first is = absurd (omega (arith, low))
  cost_tested (u ∷ []) x word low high first is = rw (is, first) refl
  cost_tested (u ∷ v ∷ xs) x word low high first is = absurd (omega (arith, high))

  pub no_cost : (xs : List (Item A)) → length xs < 1 → false ≡ is_cost_list (item_trees xs)
  no_cost [] none = refl
  no_cost (x ∷ xs) none = absurd (omega (arith, none))

  pub more_than_cost : (xs : List (Item A)) → 2 ≤ length xs → false ≡ is_cost_list (item_trees xs)
  more_than_cost [] many = absurd (omega (arith, many))
  more_than_cost (x ∷ []) many = absurd (omega (arith, many))
  more_than_cost (x ∷ y ∷ xs) many = refl

  -- a function, and the terms behind it, as a call takes them
  pub call_tested : (xs : List (Item A)) (h : Item A) (function behind : Bool) → 0 < length xs → h ≡ get_or xs 0 h → function ≡ is_static_at (item_tree h)
      → behind ≡ list_all is_term_at (item_trees (take (length xs - 1) (drop 1 xs))) → (function && behind) ≡ is_call_list (item_trees xs)
  call_tested [] h function behind some first one rest = absurd (omega (arith, some))
  call_tested (x ∷ xs) h function behind some first one rest = rw (one, rest, take_all (length (x ∷ xs) - 1) xs (omega arith), first) refl

  pub no_call : (xs : List (Item A)) → length xs < 1 → false ≡ is_call_list (item_trees xs)
  no_call [] none = refl
  no_call (x ∷ xs) none = absurd (omega (arith, none))

-- ---- a test of each item

module _ {A : Type 0} (test : Tree → Bool) (xs : List (Item A)) (i : ℕ) (whole : Bool) (so_far : list_all test (item_trees (drop i xs)) ≡ whole) where
  pub test_on : (item : Item A) → i < length xs → item ≡ get_or xs i item → true ≡ test (item_tree item) → list_all test (item_trees (drop (i + 1) xs)) ≡ whole
  test_on item below is holds =
      ap (λ b. b && list_all test (item_trees (drop (i + 1) xs))) (holds ∙ ap (λ j. test (item_tree j)) is) ∙ ap (list_all test) (sym (trees_from xs i item below)) ∙ so_far

  pub test_stop : (item : Item A) → i < length xs → item ≡ get_or xs i item → false ≡ test (item_tree item) → false ≡ whole
  test_stop item below is fails =
      ap (λ b. b && list_all test (item_trees (drop (i + 1) xs))) (fails ∙ ap (λ j. test (item_tree j)) is) ∙ ap (list_all test) (sym (trees_from xs i item below)) ∙ so_far

  pub test_end : length xs ≤ i → true ≡ whole
  test_end past = ap (list_all test) (sym (trees_end xs i past)) ∙ so_far
