-- What effects of lists are.
use Rattle.std.proofs.Common.{◌≡◌, ◌≤◌, ◌<◌, List, [], ◌∷◌, map, length, get_or, Vec, refl, sym, ap, ap₂, arith}
use Rattle.std.specs.Prelude.{Bool, Some, None, if◌then◌else◌}
use Rattle.pddl_token.specs.declared.token.Span.{Span}
use Rattle.pddl_items.specs.declared.item.Item.{Item}
use Rattle.pddl_items.specs.declared.item.Item.TheVariants.{List as Group}
use Rattle.pddl_token.specs.Spelling.{Word}
use Rattle.pddl_token.specs.Trees.{Tree, leaf}
use Rattle.pddl_token.specs.TreeWords.{list}
use Rattle.pddl_items.specs.ItemTrees.{item_tree, item_trees}
use Rattle.pddl_items.proofs.TreeLists.{item_tree_list}
use Rattle.pddl_formula_reader.specs.declared.head.Head.{Head}
use Rattle.pddl_formula_reader.specs.Inner.Reading.{atom_at, head_at, behind, only}
use Rattle.pddl_effect.specs.declared.effect.Effect.{Effect}
use Rattle.pddl_effect.specs.declared.effect.Effect.TheVariants.{And}
use Rattle.pddl_effect_reader.specs.declared.effect_reader.Scope.{Scope}
use Rattle.pddl_effect_reader.specs.declared.effect_reader.Scope.TheVariants as scopes
use Rattle.pddl_effect.specs.Effects.{effect_view}
use Rattle.pddl_effect_reader.specs.Inner.EffectReading.{scoped_of, scoped_by, increase_of, is_total_cost_at, amount_at, effect_by, effect_of_list, effect_at, whole_effect_at}
use Rattle.pddl_effect.proofs.Views.{view_and}
use Rattle.pddl_effect_reader.proofs.EffectLaws.{effect_at_leaf}

-- ---- effects of actions

-- what is not `()` is an effect, if it is one
pub whole_effect_at_list : (ts : List Tree) → 0 < length ts → whole_effect_at (list ts) ≡ effect_at (list ts)
whole_effect_at_list [] some = absurd (omega (arith, some))
whole_effect_at_list (t ∷ ts) some = refl

-- `()` is the empty conjunction
pub whole_effect_at_empty : {A : Type 0} (inner : Vec (Item A) A) (span : Span) (none : Vec (Effect A) A) → inner.items ≡ [] → none.items ≡ []
    → Some (effect_view (And none)) ≡ whole_effect_at (item_tree (Group inner span))
whole_effect_at_empty inner span none empty is = rw (view_and none, is, item_tree_list inner span, empty) refl

pub whole_effect_at_leaf : (w : Word) → whole_effect_at (leaf w) ≡ None
whole_effect_at_leaf w = effect_at_leaf w

-- ---- lists by their heads

module _ {A : Type 0} where
  pub by_head : (xs : List (Item A)) (h : Item A) (k : Head) → 0 < length xs → h ≡ get_or xs 0 h → k ≡ head_at (item_tree h)
      → effect_of_list (item_trees xs) (map effect_at (item_trees xs)) ≡ effect_by k (item_tree h) (behind (item_trees xs)) (behind (map effect_at (item_trees xs)))
  by_head [] h k some first is = absurd (omega (arith, some))
  by_head (x ∷ xs) h k some first is = rw (is, first) refl

-- ---- lists of one and of two

pub only_is : {A : Type 0} (xs : List (Item A)) (x : Item A) → 1 ≤ length xs → length xs < 2 → x ≡ get_or xs 0 x
    → only (map atom_at (item_trees xs)) ≡ atom_at (item_tree x)
only_is [] x low high is = absurd (omega (arith, low))
only_is {A} (y ∷ []) x low high is = ap (λ (i : Item A). atom_at (item_tree i)) (sym is)
only_is (y ∷ z ∷ xs) x low high is = absurd (omega (arith, high))

pub increase_is : {A : Type 0} (xs : List (Item A)) (x y : Item A) (b : Bool) → 2 ≤ length xs → length xs < 3 → x ≡ get_or xs 0 x → y ≡ get_or xs 1 y
    → b ≡ is_total_cost_at (item_tree x) → increase_of (item_trees xs) ≡ (if b then amount_at (item_tree y) else None)
increase_is [] x y b low high first second cost = absurd (omega (arith, low))
increase_is (u ∷ []) x y b low high first second cost = absurd (omega (arith, low))
increase_is (u ∷ v ∷ []) x y b low high first second cost = rw (cost, first, second) refl
increase_is (u ∷ v ∷ w ∷ xs) x y b low high first second cost = absurd (omega (arith, high))

-- ---- lists of three

three : {A : Type 0} (xs : List (Item A)) (x y : Item A) → 3 ≤ length xs → length xs < 4 → x ≡ get_or xs 1 x → y ≡ get_or xs 2 y
    → (h : Item A) × (xs ≡ h ∷ x ∷ y ∷ [])
three [] x y low high first second = absurd (omega (arith, low))
three (a ∷ []) x y low high first second = absurd (omega (arith, low))
three (a ∷ b ∷ []) x y low high first second = absurd (omega (arith, low))
three {A} (a ∷ b ∷ c ∷ []) x y low high first second = (a, sym (ap₂ (λ (i j : Item A). a ∷ i ∷ j ∷ []) first second))
three (a ∷ b ∷ c ∷ d ∷ xs) x y low high first second = absurd (omega (arith, high))

module _ {A : Type 0} (xs : List (Item A)) (x y : Item A) (low : 3 ≤ length xs) (high : length xs < 4) (first : x ≡ get_or xs 1 x) (second : y ≡ get_or xs 2 y) where
  items_are : (h : Item A) × (xs ≡ h ∷ x ∷ y ∷ [])
  items_are = three xs x y low high first second

  -- what the effect stands under, and the effect
  pub scoped_is : (s : Scope) → scoped_of s (behind (item_trees xs)) (behind (map effect_at (item_trees xs))) ≡ scoped_by s (item_tree x) (effect_at (item_tree y))
  scoped_is scopes.Variables = rw items_are.1 refl
  scoped_is scopes.Condition = rw items_are.1 refl
